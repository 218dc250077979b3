-- A reference that is still to be met. This project's own.
use Rattle.std.specs.Prelude.{◌≡◌, ◌⊎◌, ℕ, Some}
use Rattle.vm_types.specs.declared.names.Page.{Page}
use Rattle.vm_types.specs.declared.names.ProcStatus.TheVariants as status
use Rattle.vm_types.specs.declared.config.Config.{Config}
use Rattle.vm_types.specs.declared.reference.Ref.{Ref}
use Rattle.pager_model.specs.Lookups.{entries_at, page_by}
use Rattle.pager_model.specs.Maps.{page_number}
use Rattle.pager_model.specs.Pager.{Pager}

-- its process isn't resident, or its page is mapped and has no valid entry
abbrev pub IsUnmet : Config → Pager → ℕ → Ref → Type 0
IsUnmet config a p r =
    (a.status p ≡ status.Resident → ⊥) ⊎ ((g : Page) × (page_by config a.map p (page_number (r.addr).0) ≡ Some g) × (entries_at a.valid p (page_number (r.addr).0) ≡ 0))
