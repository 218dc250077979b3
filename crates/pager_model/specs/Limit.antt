-- LIMIT: a working set limit is adjusted. Source: Kenah and Bate, "VAX/VMS Internals and Data
-- Structures", automatic working set limit adjustment; its period in references is this project's own.
use Rattle.std.specs.Prelude.{◌≡◌, ℕ, true, Some, length, slice_get}
use Rattle.vm_types.specs.Adjust.{adjust}
use Rattle.vm_types.specs.declared.config.Config.{Config}
use Rattle.vm_types.specs.declared.config.ProcSpec.{ProcSpec}
use Rattle.pager_model.specs.Lookups.{is_pending}
use Rattle.pager_model.specs.Own.{IsResident}
use Rattle.pager_model.specs.Pager.{Pager}
use Rattle.pager_model.specs.Sets.{at_number}

-- an adjustment is pending, and the limit is what the rule gives for the faults since the last one
pub record IsLimit (config : Config) (a : Pager) (p n faults : ℕ) : Type 0 where
  pub own : IsResident config a p
  pub pending : is_pending config (a.references p) ≡ true
  pub counted : faults ≡ a.faults p
  pub adjusted : (spec : ProcSpec) → slice_get config.procs p ≡ Some spec → n ≡ adjust config.params spec (a.faults p) (a.limit p) (length a.free)

abbrev pub after_limit : Pager → ℕ → ℕ → Pager
after_limit a p n = record a { limit = at_number a.limit p n; references = at_number a.references p 0; faults = at_number a.faults p 0 }
