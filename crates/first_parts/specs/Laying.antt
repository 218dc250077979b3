-- How the mappings of a configuration are laid into the page tables. No contract of a public call names these
-- definitions.
use Rattle.std.specs.Prelude.{◌≡◌, ℕ, ◌+◌, ◌<◌, ◌^◌, List, Some, length, slice_get, if◌then◌else◌}
use Rattle.vm_types.specs.Configuration.{HasPages, IsSectionPage}
use Rattle.vm_types.specs.WellFormed.{IsCode, IsRange}
use Rattle.vm_types.specs.declared.config.Config.{Config}
use Rattle.vm_types.specs.declared.config.Mapping.{Mapping}
use Rattle.vm_types.specs.declared.config.Origin.{Origin}
use Rattle.vm_types.specs.declared.config.Origin.TheVariants as origin
use Rattle.pte_forms.specs.declared.pte.Place.{Place}
use Rattle.pte_forms.specs.declared.pte.Place.TheVariants as place
use Rattle.pager_model.specs.Maps.{shared_of}
use Rattle.state_fits.specs.Entries.{section_page_number}

-- what the entry of a page shows that was never in a frame
abbrev pub first_place : Config → Origin → Place
first_place config origin.Zero = place.DemandZero
first_place config (origin.Section s i) =
    if shared_of (slice_get config.sections s.0) then place.GlobalIndex (section_page_number config s.0 i) else place.SectionIndex (section_page_number config s.0 i)

-- the number of the first page of each section
abbrev pub HasFirsts : Config → List ℕ → Type 0
HasFirsts config firsts = (s : ℕ) → s < length config.sections → slice_get firsts s ≡ Some (section_page_number config s 0)

-- the page is one of its section, and its number can be said
abbrev pub CanPlace : Config → List ℕ → Origin → Type 0
CanPlace config firsts origin.Zero = Unit {0}
CanPlace config firsts (origin.Section s i) = HasFirsts config firsts × IsSectionPage config.sections s.0 i × (section_page_number config s.0 i < 2 ^ 21)

-- a mapping of one of so many processes, of pages that there are
pub record CanLayMapping (config : Config) (firsts : List ℕ) (procs : ℕ) (m : Mapping) : Type 0 where
  pub proc : (m.proc).0 < procs
  pub range : IsRange (m.at).0 m.pages
  pub code : IsCode m.prot
  pub origin : HasPages config.sections m.from m.pages
  pub firsts_are : HasFirsts config firsts
  pub few : (s i : ℕ) → IsSectionPage config.sections s i → section_page_number config s i < 2 ^ 21
