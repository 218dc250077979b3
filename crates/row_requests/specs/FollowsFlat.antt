-- What the pager's state is known to say of the flat machine after the entries. This project's own.
use Rattle.std.specs.Prelude.{◌≡◌, List}
use Rattle.vm_types.specs.declared.config.Config.{Config}
use Rattle.vm_journal.specs.declared.entry.Entry.{Entry}
use Rattle.pager_model.specs.OfConfig.{MapsRight}
use Rattle.pager_model.specs.Pager.{Pager}
use Rattle.pager_model.specs.Spoken.{flat_after}

-- it has the flat machine's maps and touched pages, and each mapping is of the configuration
pub record FollowsFlat (config : Config) (past : List Entry) (a : Pager) : Type 0 where
  pub maps : a.map ≡ (flat_after config past).map
  pub touched : a.touched ≡ (flat_after config past).touched
  pub right : MapsRight config a.map
