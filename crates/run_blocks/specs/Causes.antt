-- Why making blocks fails. This project's own.
use Rattle.std.specs.Prelude.{ℕ, ◌≤◌, Result, IsErrOf}
use Rattle.vm_types.specs.Counts.{Rose}
use Rattle.disk_trait.specs.declared.depot.MakeFault.{MakeFault}
use Rattle.disk_trait.specs.declared.depot.MakeFault.TheVariants.{Failed}

-- the depot's count doesn't fall, and rises if the depot failed
pub record HasCause {A : Type 0} (before after : ℕ) (result : Result A MakeFault) : Type 0 where
  pub later : before ≤ after
  pub failed : IsErrOf result Failed → Rose before after
