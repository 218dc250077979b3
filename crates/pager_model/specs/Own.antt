-- What is common to the entries that a resident process makes for itself. This project's own.
use Rattle.std.specs.Prelude.{◌≡◌, ℕ, ◌<◌, None, length}
use Rattle.vm_types.specs.declared.names.ProcStatus.TheVariants as status
use Rattle.vm_types.specs.declared.config.Config.{Config}
use Rattle.pager_model.specs.Lookups.{IsHead}
use Rattle.pager_model.specs.Pager.{Pager}

pub record IsResident (config : Config) (a : Pager) (p : ℕ) : Type 0 where
  pub process : p < length config.procs
  pub resident : a.status p ≡ status.Resident

-- the frame heads the free list and is empty
pub record IsEmptyHead (a : Pager) (f : ℕ) : Type 0 where
  pub head : IsHead a.free f
  pub empty : a.page f ≡ None
