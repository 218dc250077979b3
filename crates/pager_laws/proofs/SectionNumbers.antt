-- Section pages are numbered through all sections: each has a number of its own, below the number of all.
use Rattle.std.proofs.Common.{◌≡◌, ◌⊎◌, inl, inr, ℕ, zero, suc, ◌+◌, ◌<◌, ◌≤◌, List, [], ◌∷◌, Option, Some, refl, subst, arith}
use Rattle.std.specs.Prelude.{take, sum_by}
use Rattle.std.proofs.lemmas.Bool.{cases_lt}
use Rattle.std.proofs.lemmas.List.Sums.{sum_by-cons}
use Rattle.std.proofs.lemmas.Option.{none-some}
use Rattle.vm_types.specs.Configuration.{IsSectionPage, section_pages}
use Rattle.vm_types.specs.declared.config.Config.{Config}
use Rattle.vm_types.specs.declared.config.Section.{Section}
use Rattle.pager_laws.specs.SectionNumbers.{section_page_number}

abbrev number_in : List Section → ℕ → ℕ → ℕ
number_in sections s i = sum_by section_pages (take s sections) + i

within_own : (o : Option Section) (x : Section) (i : ℕ) → o ≡ Some x → (y : Section) × (o ≡ Some y) × (i < section_pages y) → i < section_pages x
within_own o x i is (y, also, less) = let same : y ≡ x = cc in subst (λ (z : Section). i < section_pages z) same less

pub in_all : (sections : List Section) (s i : ℕ) → IsSectionPage sections s i → number_in sections s i < sum_by section_pages sections
in_all [] s i page = absurd (none-some page.0 page.1)
in_all (x ∷ sections) zero i page = let more = sum_by-cons section_pages x sections in let less = within_own (Some x) x i refl page in omega (arith, more, less)
in_all (x ∷ sections) (suc s) i page =
    let more = sum_by-cons section_pages x sections in
    let front = sum_by-cons section_pages x (take s sections) in
    let rest = in_all sections s i page in
    omega (arith, more, front, rest)

-- a page of an earlier section comes before those of a later one
before : (sections : List Section) (s t i j : ℕ) → IsSectionPage sections s i → s < t → number_in sections s i < number_in sections t j
before [] s t i j page less = absurd (none-some page.0 page.1)
before (x ∷ sections) s zero i j page less = absurd (omega (arith, less))
before (x ∷ sections) zero (suc t) i j page less = let more = sum_by-cons section_pages x (take t sections) in let own = within_own (Some x) x i refl page in omega (arith, more, own)
before (x ∷ sections) (suc s) (suc t) i j page less =
    let first = sum_by-cons section_pages x (take s sections) in
    let second = sum_by-cons section_pages x (take t sections) in
    let rest = before sections s t i j page (omega (arith, less)) in
    omega (arith, first, second, rest)

pub number_within : (config : Config) (s i : ℕ) → IsSectionPage config.sections s i → section_page_number config s i < sum_by section_pages config.sections
number_within config s i page = in_all config.sections s i page

pub numbers_differ : (config : Config) (s t i j : ℕ) → IsSectionPage config.sections s i → IsSectionPage config.sections t j → section_page_number config s i ≡ section_page_number config t j → (s ≡ t) × (i ≡ j)
numbers_differ config s t i j page other same = go (cases_lt s t) (cases_lt t s)
  where
    go : (s < t) ⊎ (t ≤ s) → (t < s) ⊎ (s ≤ t) → (s ≡ t) × (i ≡ j)
    go (inl less) also = absurd (let earlier = before config.sections s t i j page less in omega (arith, earlier, same))
    go (inr least) (inl less) = absurd (let earlier = before config.sections t s j i other less in omega (arith, earlier, same))
    go (inr least) (inr most) =
        let is : s ≡ t = omega (arith, least, most) in
        (is, let moved = subst (λ (u : ℕ). section_page_number config u i ≡ section_page_number config t j) is same in omega (arith, moved))
