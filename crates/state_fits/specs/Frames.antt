-- The PFN database as it stands for the pager's state. Source: Kenah and Bate, "VAX/VMS Internals and Data
-- Structures", the PFN database; that a row has the ring slot of a valid private page is this project's own.
use Rattle.std.specs.Prelude.{◌≡◌, ℕ, Bool, ◌+◌, ◌&&◌, List, Option, Some, None, count_by, length, nat_eq, nat_lt, position}
use Rattle.vm_types.specs.Ring.{Ring}
use Rattle.vm_types.specs.declared.names.FrameState.{FrameState}
use Rattle.vm_types.specs.declared.names.Page.{Page}
use Rattle.vm_types.specs.declared.names.Page.TheVariants.{Private, Shared}
use Rattle.pfn_database.specs.Frames.{Frames, row_of}
use Rattle.pfn_database.specs.Rows.{counted_references}
use Rattle.pfn_database.specs.declared.row.Row.{Row}
use Rattle.pager_model.specs.Flights.{Flight}
use Rattle.pager_model.specs.Lookups.{has_vpn, pins_with, shares}
use Rattle.pager_model.specs.Pager.{Valid}
use Rattle.pager_model.specs.Transfers.{reads_on, writes_on}

abbrev pub or_zero : Option ℕ → ℕ
or_zero None = 0
or_zero (Some n) = n

-- the ring slot of a private page that a slot holds, and 0 of every other
abbrev pub slot_for : (ℕ → Ring) → Option Page → ℕ
slot_for ring None = 0
slot_for ring (Some (Shared s i)) = 0
slot_for ring (Some (Private p v)) = or_zero (position (has_vpn v) (ring p.0).slots)

-- how many pinned slots have a valid entry for the frame
abbrev pub is_pin_on : (ℕ → Ring) → ℕ → Valid → Bool
is_pin_on ring f e = nat_eq e.frame f && nat_lt 0 (pins_with (ring e.proc) e.vpn)

abbrev pub frame_pins : List Valid → (ℕ → Ring) → ℕ → ℕ
frame_pins valid ring f = count_by (is_pin_on ring f) valid

-- the row of a frame
abbrev pub row_by : FrameState → Option Page → Bool → ℕ → ℕ → ℕ → ℕ → Row
row_by s page modify shared flights slot pins =
    record { state = s; page = page; modify = modify; refs = counted_references shared flights + pins; shares = shared; slot = slot; flights = flights }

unfoldable pub frame_row : (ℕ → FrameState) → (ℕ → Option Page) → (ℕ → Bool) → List Valid → (ℕ → Ring) → List Flight → ℕ → Row
frame_row state_of page modify valid ring flights f =
    row_by (state_of f) (page f) (modify f) (shares valid f) (reads_on f flights + writes_on f flights) (slot_for ring (page f)) (frame_pins valid ring f)

pub record FramesFit (row : ℕ → Row) (n : ℕ) (free modified : List ℕ) (pfns : Frames) : Type 0 where
  pub count : length pfns.rows ≡ n
  pub rows : (f : ℕ) → row_of pfns f ≡ row f
  pub free_list : pfns.free ≡ free
  pub modified_list : pfns.modified ≡ modified
