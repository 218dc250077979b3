-- Counts by frame, while the slots of working sets are passed. Source: Kenah and Bate, "VAX/VMS Internals and Data
-- Structures", the PFN database, share count; that it is counted by slots is this project's own.
use Rattle.std.specs.Prelude.{◌≡◌, ℕ, Bool, false, ◌&&◌, ◌+◌, ◌<◌, List, Option, Some, None, count_by, length, nat_eq, nat_lt, slice_index, take}
use Rattle.vm_types.specs.Ring.{Held}
use Rattle.pager_model.specs.Lookups.{entry_of}
use Rattle.pager_model.specs.Pager.{Pager, Valid}
use Rattle.pager_model.specs.Report.{is_pin_on}

-- one count for each of n frames
pub record AreFrameCounts (n : ℕ) (count : ℕ → ℕ) (counts : List ℕ) : Type 0 where
  pub size : length counts ≡ n
  pub each : (f : ℕ) → f < n → slice_index counts f ≡ count f

abbrev pub is_share_below : ℕ → ℕ → Valid → Bool
is_share_below p f e = nat_lt e.proc p && nat_eq e.frame f

-- how many valid entries of the processes below p there are for a frame
abbrev pub shares_below : List Valid → ℕ → ℕ → ℕ
shares_below valid p f = count_by (is_share_below p f) valid

-- how many of them have a pinned slot
abbrev pub is_pin_below : Pager → ℕ → ℕ → Valid → Bool
is_pin_below a p f e = nat_lt e.proc p && is_pin_on a f e

abbrev pub pins_below : Pager → ℕ → ℕ → ℕ
pins_below a p f = count_by (is_pin_below a p f) a.valid

abbrev pub is_named : ℕ → Option Valid → Bool
is_named f None = false
is_named f (Some e) = nat_eq e.frame f

-- whether the entry of the page in a slot of process p is for the frame
abbrev pub is_slot_for : List Valid → ℕ → ℕ → Option Held → Bool
is_slot_for valid p f None = false
is_slot_for valid p f (Some held) = is_named f (entry_of valid p held.vpn)

-- and the slot is pinned
abbrev pub is_pinned_for : List Valid → ℕ → ℕ → Option Held → Bool
is_pinned_for valid p f None = false
is_pinned_for valid p f (Some held) = is_named f (entry_of valid p held.vpn) && held.pinned

-- the shares of a frame when the first n slots of process p were passed, after those of the processes before it
abbrev pub passed : Pager → ℕ → ℕ → ℕ → ℕ
passed a p n f = shares_below a.valid p f + count_by (is_slot_for a.valid p f) (take n (a.ring p).slots)

-- and its pins
abbrev pub pins_passed : Pager → ℕ → ℕ → ℕ → ℕ
pins_passed a p n f = pins_below a p f + count_by (is_pinned_for a.valid p f) (take n (a.ring p).slots)
