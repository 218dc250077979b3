-- The working set list as a ring of slots. Source: Kenah and Bate, "VAX/VMS Internals and Data
-- Structures", paging dynamics, working set replacement; that only the hand's order counts, and
-- no translation buffer check, is this project's own.
use Rattle.std.specs.Prelude.{ℕ, Bool, true, false, ◌||◌, ◌+◌, ◌%◌, List, ◌++◌, Option, Some, None, length, take, drop, position, count_by, not, nat_lt, if◌then◌else◌}
use Rattle.vm_types.specs.declared.ring_choice.Choice.{Choice}
use Rattle.vm_types.specs.declared.ring_choice.Choice.TheVariants.{Empty, Victim, AllLocked}

-- a page in a slot, by its number, and whether it is locked there, and pinned in memory
pub record Held : Type 0 where
  pub vpn : ℕ
  pub locked : Bool
  pub pinned : Bool

-- slots, each empty or with a page, and the hand
pub record Ring : Type 0 where
  pub slots : List (Option Held)
  pub hand : ℕ

abbrev pub is_empty_slot : Option Held → Bool
is_empty_slot None = true
is_empty_slot (Some held) = false

abbrev pub is_filled_slot : Option Held → Bool
is_filled_slot None = false
is_filled_slot (Some held) = true

-- a page is fixed where it is locked or pinned
abbrev pub is_fixed : Held → Bool
is_fixed held = held.locked || held.pinned

-- a page that isn't fixed
abbrev pub is_loose_slot : Option Held → Bool
is_loose_slot None = false
is_loose_slot (Some held) = not (is_fixed held)

abbrev pub is_fixed_slot : Option Held → Bool
is_fixed_slot None = false
is_fixed_slot (Some held) = is_fixed held

abbrev pub is_locked_slot : Option Held → Bool
is_locked_slot None = false
is_locked_slot (Some held) = held.locked

abbrev pub is_pinned_slot : Option Held → Bool
is_pinned_slot None = false
is_pinned_slot (Some held) = held.pinned

-- a page that isn't pinned
abbrev pub is_unpinned_slot : Option Held → Bool
is_unpinned_slot None = false
is_unpinned_slot (Some held) = not held.pinned

-- what a page is put into a slot as: neither locked nor pinned
abbrev pub fresh_slot : ℕ → Option Held
fresh_slot v = Some (record { vpn = v; locked = false; pinned = false })

-- how many slots are filled
abbrev pub filled : List (Option Held) → ℕ
filled slots = count_by is_filled_slot slots

-- how many pages are locked or pinned
abbrev pub fixed : List (Option Held) → ℕ
fixed slots = count_by is_fixed_slot slots

-- how many pages are pinned, and how many aren't
abbrev pub pinned : List (Option Held) → ℕ
pinned slots = count_by is_pinned_slot slots

abbrev pub unpinned : List (Option Held) → ℕ
unpinned slots = count_by is_unpinned_slot slots

-- the slots in the order in which the hand passes them
abbrev pub from_hand : Ring → List (Option Held)
from_hand ring = drop ring.hand ring.slots ++ take ring.hand ring.slots

-- the slot that is so many places after the hand
abbrev pub slot_after : Ring → ℕ → ℕ
slot_after ring places = (ring.hand + places) % length ring.slots

abbrev pub victim_at : Ring → Option ℕ → Choice
victim_at ring None = AllLocked
victim_at ring (Some places) = Victim (slot_after ring places)

abbrev pub empty_at : Ring → Option ℕ → Choice
empty_at ring None = AllLocked
empty_at ring (Some places) = Empty (slot_after ring places)

-- below the limit the first empty slot from the hand on, else the first with a page that isn't fixed
abbrev pub choose : Ring → ℕ → Choice
choose ring limit =
    if nat_lt (filled ring.slots) limit
    then empty_at ring (position is_empty_slot (from_hand ring))
    else victim_at ring (position is_loose_slot (from_hand ring))
