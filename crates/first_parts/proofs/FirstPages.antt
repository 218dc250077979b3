-- The numbers of the sections' first pages, and that all mappings can be laid.
use Rattle.std.proofs.Common.{◌≡◌, ℕ, ◌+◌, List, [], ◌∷◌, Some, length, map, take, sum, slice_get, slice_index_or, refl, sym, ap, ◌∙◌, arith}
use Rattle.std.specs.Prelude.{sum_by, All}
use Rattle.std.specs.List.{range_with_len}
use Rattle.std.proofs.lemmas.List.{length-map, take-map}
use Rattle.std.proofs.lemmas.List.Sums.{sum_by-cons}
use Rattle.std.proofs.lemmas.List.FromFn.{get_or-map-range_with_len, length-range_with_len}
use Rattle.std.proofs.lemmas.Option.{slice_get-get_or}
use Rattle.vm_types.specs.Configuration.{IsMapping, IsWellFormed, section_pages}
use Rattle.vm_types.specs.declared.config.Config.{Config}
use Rattle.vm_types.specs.declared.config.Mapping.{Mapping}
use Rattle.vm_types.specs.declared.config.Section.{Section}
use Rattle.frame_store.specs.Blocks.{page_counts}
use Rattle.frame_store.specs.Numbers.{firsts}
use Rattle.state_fits.specs.Entries.{section_page_number}
use Rattle.state_fits.proofs.GoodEntries.{number_fits}
use Rattle.first_parts.specs.Laying.{CanLayMapping, HasFirsts}

sum_mapped : {X : Type 0} (f : X → ℕ) (xs : List X) → sum (map f xs) ≡ sum_by f xs
sum_mapped f [] = refl
sum_mapped f (x ∷ xs) = sum_by-cons (λ n. n) (f x) (map f xs) ∙ (ap (λ n. f x + n) (sum_mapped f xs) ∙ sym (sum_by-cons f x xs))

summed : (sections : List Section) (s : ℕ) → sum (take s (page_counts sections)) ≡ sum_by section_pages (take s sections)
summed sections s = ap sum (take-map section_pages s sections) ∙ sum_mapped section_pages (take s sections)

pub has_firsts : (config : Config) (numbers : List ℕ) → numbers ≡ firsts 0 (page_counts config.sections) → HasFirsts config numbers
has_firsts config numbers is s less =
    let count = length-map (range_with_len 0 (length (page_counts config.sections))) (λ row. 0 + sum (take row (page_counts config.sections))) in
    let all = length-range_with_len 0 (length (page_counts config.sections)) in
    let pages = length-map config.sections section_pages in
    ap (λ (xs : List ℕ). slice_get xs s) is
    ∙ (slice_get-get_or (firsts 0 (page_counts config.sections)) s 0 (omega (arith, count, all, pages, less))
    ∙ ap Some (get_or-map-range_with_len (λ row. 0 + sum (take row (page_counts config.sections))) 0 (length (page_counts config.sections)) s s 0 (omega (arith, pages, less)) (omega arith)
    ∙ first_number config s))
  where
    first_number : (config : Config) (s : ℕ) → 0 + sum (take s (page_counts config.sections)) ≡ section_page_number config s 0
    first_number config s = let is = summed config.sections s in omega (arith, is)

can_lay : (config : Config) (numbers : List ℕ) (procs : ℕ) (m : Mapping) → IsWellFormed config → HasFirsts config numbers → procs ≡ length config.procs → IsMapping (length config.procs) config.sections m → CanLayMapping config numbers procs m
can_lay config numbers procs m formed have is mapping =
    record { proc = (let less = mapping.proc in omega (arith, less, is)); range = mapping.range; code = mapping.code; origin = mapping.origin; firsts_are = have; few = λ s i there. number_fits config formed s i there }

pub can_lay_all : (config : Config) (numbers : List ℕ) (procs : ℕ) → IsWellFormed config → HasFirsts config numbers → procs ≡ length config.procs → All (CanLayMapping config numbers procs) config.maps
can_lay_all config numbers procs formed have is k d below = can_lay config numbers procs (slice_index_or config.maps k d) formed have is (formed.maps k d below)
