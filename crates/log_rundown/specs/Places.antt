-- A slot of a process, and what stands in it, in plain numbers. This project's own.
use Rattle.std.specs.Prelude.{◌<◌}
use Rattle.vm_types.specs.declared.limits.TheConstants.{MOST_EXTENT}
use Rattle.pager_policy.specs.Given.{Seen as SeenIs}
use Rattle.pager_policy.specs.Rundown.{Place as PlaceIs}
use Rattle.log_rundown.specs.declared.places.Place.{Place}
use Rattle.log_rundown.specs.declared.seen.Seen.{Seen}

abbrev pub place_as : Place → PlaceIs
place_as x = record { process = (x.process).0; slot = x.slot }

-- a slot's number is small
abbrev pub HasSmallSlot : Place → Type 0
HasSmallSlot x = x.slot < MOST_EXTENT

abbrev pub seen_as : Seen → SeenIs
seen_as s = record { vpn = s.vpn; frame = (s.frame).0; page = s.page; pinned = s.pinned }
