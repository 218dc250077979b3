-- The lowest of the pages in the slots of a working set that are of a range and are neither locked nor pinned. This project's own.
use Rattle.std.specs.Prelude.{ℕ, ◌&&◌, ◌||◌, Option, Some, None, min, not, if◌then◌else◌}
use Rattle.pager_model.specs.FlatService.{in_range}
use Rattle.state_pages.specs.declared.found.Slot.{Slot}

-- the lower of two numbers, if both are there, and else the one that is
abbrev pub lower : Option ℕ → Option ℕ → Option ℕ
lower None other = other
lower (Some x) None = Some x
lower (Some x) (Some y) = Some (min x y)

-- the number of the page in a slot, if it is one of the range and neither locked nor pinned
abbrev pub purged_in : ℕ → ℕ → Option Slot → Option ℕ
purged_in address pages None = None
purged_in address pages (Some slot) = if in_range address pages slot.vpn && not (slot.locked || slot.pinned) then Some slot.vpn else None
