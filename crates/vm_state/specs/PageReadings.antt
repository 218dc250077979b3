-- What the readers of pages show. This project's own.
use Rattle.std.specs.Prelude.{◌≡◌, ℕ, Bool, Option, Some, None, nat_lt}
use Rattle.std.specs.Option.{is_some, option_map}
use Rattle.vm_types.specs.Configuration.{IsSectionPage}
use Rattle.vm_types.specs.declared.config.Config.{Config}
use Rattle.vm_types.specs.declared.names.Page.{Page}
use Rattle.vm_types.specs.declared.names.Page.TheVariants.{Private, Shared}
use Rattle.vm_types.specs.declared.reference.Ref.{Ref}
use Rattle.pager_model.specs.Flat.{flat_refusal}
use Rattle.pager_model.specs.Forget.{holder}
use Rattle.pager_model.specs.Maps.{pfn, Mapped, page_behind, page_number}
use Rattle.pager_model.specs.Lookups.{block_of, count_page, entry_of}
use Rattle.pager_model.specs.Pager.{Pager, Valid}
use Rattle.pager_model.specs.Spoken.{flat_after}
use Rattle.state_pages.specs.declared.found.Backing.{Backing}
use Rattle.state_pages.specs.declared.found.Found.{Found}
use Rattle.vm_state.specs.History.{History, pager}

-- of a page number that is mapped: the page, what is behind it, its protection code, and whether its entry is valid
abbrev pub found_with : Config → ℕ → ℕ → Bool → Option Mapped → Option Found
found_with config p v valid None = None
found_with config p v valid (Some m) = Some (record { page = page_behind config p v m.origin; from = m.origin; prot = m.prot; valid = valid })

abbrev pub found_in : Config → Pager → ℕ → ℕ → Option Found
found_in config a p v = found_with config p v (is_some (entry_of a.valid p v)) (a.map p v)

-- a reference that memory without frames and disk wouldn't refuse, and whether the entry of its page number is valid
pub record IsGranted (s : History) (p : ℕ) (r : Ref) (valid : Bool) : Type 0 where
  pub granted : None ≡ flat_refusal s.config (flat_after s.config s.past) p r
  pub found : Found
  pub there : Some found ≡ found_in s.config (pager s) p (page_number (r.addr).0)
  pub entry : found.valid ≡ valid

-- whether a page is charged, the block in which it lies, the page file block that is assigned to it, and the frame
-- that holds it
abbrev pub backing_in : Config → Pager → Page → Backing
backing_in config a g =
    record { charged = nat_lt 0 (count_page a.charged g); lies = a.lies g; assigned = block_of a.assigned g; frame = option_map pfn (holder config a.page g) }

abbrev pub frame_of : Valid → ℕ
frame_of e = e.frame

-- a shared page is one of a section of the configuration
abbrev pub IsKnown : Config → Page → Type 0
IsKnown config (Private p v) = Unit {0}
IsKnown config (Shared s i) = IsSectionPage config.sections s.0 i
