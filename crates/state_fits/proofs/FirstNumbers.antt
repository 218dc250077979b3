-- The number of a section page, by the number of its section's first page.
use Rattle.std.proofs.Common.{◌≡◌, ℕ, ◌+◌, ◌^◌, ◌<◌, List, Some, length, slice_get, slice_index, arith}
use Rattle.std.proofs.lemmas.Option.{get_or_from_slice_get, slice_get_within}
use Rattle.vm_types.specs.Configuration.{IsSectionPage, IsWellFormed}
use Rattle.vm_types.specs.declared.config.Config.{Config}
use Rattle.pager_laws.proofs.SectionNumbers.{number_within}
use Rattle.state_fits.specs.Entries.{section_page_number}

-- the section has a first number in the list, and the page's number is that far behind it
pub record IsNumbered (config : Config) (firsts : List ℕ) (s i : ℕ) : Type 0 where
  pub there : s < length firsts
  pub number : slice_index firsts s + i ≡ section_page_number config s i
  pub few : slice_index firsts s + i < 2 ^ 32

pub numbered : (config : Config) (firsts : List ℕ) (s i : ℕ) → IsWellFormed config → IsSectionPage config.sections s i → slice_get firsts s ≡ Some (section_page_number config s 0) → IsNumbered config firsts s i
numbered config firsts s i formed page first =
    let is : slice_index firsts s ≡ section_page_number config s 0 = get_or_from_slice_get firsts s (section_page_number config s 0) 0 first in
    let within = number_within config s i page in
    record {
      there = slice_get_within firsts s (section_page_number config s 0) first;
      number = omega (arith, is);
      few = omega (arith, is, within, formed.sections.pages);
    }
