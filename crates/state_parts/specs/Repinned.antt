-- The page of a slot whose pin changes. This project's own.
use Rattle.std.specs.Prelude.{ℕ, Bool, ◌&&◌, Option, Some, None, not, if◌then◌else◌}
use Rattle.vm_types.specs.Ring.{Held}
use Rattle.pager_model.specs.FlatService.{in_range}

-- whether two truth values differ
abbrev pub differ : Bool → Bool → Bool
differ b c = if b then not c else c

-- its page number, if the page is one of the range and isn't pinned, or unpinned, as it is to be
abbrev pub page_to_pin : Bool → ℕ → ℕ → Option Held → Option ℕ
page_to_pin pin address pages None = None
page_to_pin pin address pages (Some held) = if in_range address pages held.vpn && differ held.pinned pin then Some held.vpn else None
