-- The pages of a mapping can be laid into the page tables.
use Rattle.std.proofs.Common.{◌≡◌, ℕ, ◌+◌, ◌<◌, ◌^◌, Bool, true, false, cond, List, slice_get, arith}
use Rattle.vm_types.specs.Behind.{FitsPages, origin_after}
use Rattle.vm_types.specs.Configuration.{HasPages, IsSectionPage}
use Rattle.vm_types.specs.WellFormed.{IsCode}
use Rattle.vm_types.specs.declared.config.Config.{Config}
use Rattle.vm_types.specs.declared.config.Mapping.{Mapping}
use Rattle.vm_types.specs.declared.config.Origin.{Origin}
use Rattle.vm_types.specs.declared.config.Origin.TheVariants as origin
use Rattle.page_tables.specs.PageTables.{IsEntry}
use Rattle.pte_forms.specs.declared.pte.Place.{Place}
use Rattle.pte_forms.specs.declared.pte.Place.TheVariants as place
use Rattle.pager_model.specs.Maps.{shared_of}
use Rattle.state_fits.specs.Entries.{section_page_number}
use Rattle.first_parts.specs.Laying.{CanLayMapping, CanPlace, HasFirsts, first_place}

module _ (config : Config) (firsts : List ℕ) (have : HasFirsts config firsts) (few : (s i : ℕ) → IsSectionPage config.sections s i → section_page_number config s i < 2 ^ 21) (pages k : ℕ) (less : k < pages) where
  place_after : (o : Origin) → HasPages config.sections o pages → CanPlace config firsts (origin_after o k)
  place_after origin.Zero has = tt
  place_after (origin.Section s first) has =
      let there : IsSectionPage config.sections s.0 (first + k) = (has.0, has.1, (let within = has.2 in omega (arith, within, less))) in
      (have, there, few s.0 (first + k) there)

  fits_after : (o : Origin) → HasPages config.sections o pages → FitsPages o k
  fits_after origin.Zero has = tt
  fits_after (origin.Section s first) has =
      let there : IsSectionPage config.sections s.0 (first + k) = (has.0, has.1, (let within = has.2 in omega (arith, within, less))) in
      let small = few s.0 (first + k) there in
      omega (arith, small)

pub can_place : (config : Config) (firsts : List ℕ) (procs k : ℕ) (m : Mapping) → CanLayMapping config firsts procs m → k < m.pages → CanPlace config firsts (origin_after m.from k)
can_place config firsts procs k m can less = place_after config firsts can.firsts_are can.few m.pages k less m.from can.origin

pub can_say : (config : Config) (firsts : List ℕ) (procs k : ℕ) (m : Mapping) → CanLayMapping config firsts procs m → k < m.pages → FitsPages m.from k
can_say config firsts procs k m can less = fits_after config firsts can.firsts_are can.few m.pages k less m.from can.origin

pub good_first : (config : Config) (firsts : List ℕ) (prot : ℕ) (o : Origin) (shown : Place) → IsCode prot → CanPlace config firsts o → shown ≡ first_place config o → IsEntry (record { prot = prot; place = shown })
good_first config firsts prot origin.Zero shown code can is = rw is (record { fits = record { code = code; number = omega arith }; unmarked = tt })
good_first config firsts prot (origin.Section s i) shown code can is = rw is (go (shared_of (slice_get config.sections s.0)))
  where
    go : (b : Bool) → IsEntry (record { prot = prot; place = cond b (place.GlobalIndex (section_page_number config s.0 i)) (place.SectionIndex (section_page_number config s.0 i)) })
    go true = record { fits = record { code = code; number = can.2 }; unmarked = tt }
    go false = record { fits = record { code = code; number = can.2 }; unmarked = tt }
