-- A slot of a process that has a shared page. This project's own.
use Rattle.std.specs.Prelude.{◌≡◌, true, ◌<◌, length}
use Rattle.vm_types.specs.declared.limits.TheConstants.{MOST_EXTENT}
use Rattle.pager_policy.specs.Rundown.{Place as PlaceIs, is_shared_at}
use Rattle.vm_state.specs.History.{History, pager}
use Rattle.rundown.specs.declared.places.Place.{Place}

-- the same with plain numbers
abbrev pub place_as : Place → PlaceIs
place_as x = record { process = (x.process).0; slot = x.slot }

-- its process is one of the configuration, its number is small, and it has a shared page
pub record IsThere (s : History) (x : Place) : Type 0 where
  pub within : (x.process).0 < length s.config.procs
  pub small : x.slot < MOST_EXTENT
  pub shared : is_shared_at (pager s) (x.process).0 x.slot ≡ true
