-- The entries that the pager makes are entries that the page tables may have.
use Rattle.std.proofs.Common.{◌≡◌, ℕ, ◌^◌, ◌<◌, false, Option, Some, None, refl, arith}
use Rattle.vm_types.specs.Configuration.{IsSectionPage, IsWellFormed}
use Rattle.vm_types.specs.WellFormed.{IsCode}
use Rattle.vm_types.specs.declared.config.Config.{Config}
use Rattle.vm_types.specs.declared.config.Origin.{Origin}
use Rattle.vm_types.specs.declared.config.Origin.TheVariants as origin
use Rattle.vm_types.specs.declared.names.BlockId.{BlockId}
use Rattle.vm_types.specs.declared.names.BlockId.TheVariants as block
use Rattle.vm_types.specs.declared.names.Proc.{Proc}
use Rattle.vm_types.specs.declared.names.Page.{Page}
use Rattle.vm_types.specs.declared.names.Page.TheVariants.{Private, Shared}
use Rattle.page_tables.specs.PageTables.{IsEntry}
use Rattle.pte_forms.specs.declared.pte.Place.TheVariants as place
use Rattle.pager_model.specs.Maps.{pfn}
use Rattle.pager_model.specs.OfConfig.{IsOrigin, IsPageOf}
use Rattle.pager_laws.proofs.SectionNumbers.{number_within}
use Rattle.state_fits.specs.Changes.{place_left}
use Rattle.state_fits.specs.Entries.{origin_place, resting_place, section_page_number}

module _ (config : Config) (formed : IsWellFormed config) where
  pub number_fits : (s i : ℕ) → IsSectionPage config.sections s i → section_page_number config s i < 2 ^ 21
  number_fits s i there = let within = number_within config s i there in omega (arith, within, formed.sections.pages)

  pub good_left : (prot f : ℕ) (g : Page) → IsCode prot → f < config.frames → IsPageOf config g → IsEntry (record { prot = prot; place = place_left config f g })
  good_left prot f (Private p v) code below of = record { fits = record { code = code; number = omega (arith, below, formed.frames.1) }; unmarked = tt }
  good_left prot f (Shared s i) code below of = record { fits = record { code = code; number = number_fits s.0 i of.0 }; unmarked = tt }

  pub good_valid : (prot f : ℕ) → IsCode prot → f < config.frames → IsEntry (record { prot = prot; place = place.Valid false (pfn f) })
  good_valid prot f code below = record { fits = record { code = code; number = omega (arith, below, formed.frames.1) }; unmarked = tt }

  good_origin : (prot : ℕ) (b : Origin) → IsCode prot → IsOrigin config b → IsEntry (record { prot = prot; place = origin_place config b })
  good_origin prot origin.Zero code there = record { fits = record { code = code; number = omega arith }; unmarked = tt }
  good_origin prot (origin.Section s i) code there = record { fits = record { code = code; number = number_fits s.0 i there }; unmarked = tt }

  -- a page that is in no frame: the numbers of its page file block and of its swap block fit
  pub good_resting : (prot : ℕ) (b : Origin) (lies : Option BlockId) → IsCode prot → IsOrigin config b → ((n : ℕ) → lies ≡ Some (block.PageFile n) → n < 2 ^ 21) → ((r : Proc) (n : ℕ) → lies ≡ Some (block.Swap r n) → n < 2 ^ 21)
      → IsEntry (record { prot = prot; place = resting_place config b lies })
  good_resting prot b None code there file swap = good_origin prot b code there
  good_resting prot b (Some (block.PageFile n)) code there file swap = record { fits = record { code = code; number = file n refl }; unmarked = tt }
  good_resting prot b (Some (block.Swap r n)) code there file swap = record { fits = record { code = code; number = swap r n refl }; unmarked = tt }
  good_resting prot b (Some (block.Section s i)) code there file swap = good_origin prot b code there
