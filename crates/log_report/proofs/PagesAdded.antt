-- The pages of sections, added one after another.
use Rattle.std.proofs.Common.{◌≡◌, ℕ, ◌+◌, ◌<◌, ◌≤◌, List, [], ◌∷◌, ◌++◌, drop, length, map, slice_index_or, sym, ap, ◌∙◌, arith}
use Rattle.std.specs.Prelude.{All, sum_by}
use Rattle.std.specs.List.{range_with_len}
use Rattle.std.proofs.lemmas.List.{append_assoc, drop_more}
use Rattle.std.proofs.lemmas.List.FromFn.{map-range_with_len_more}
use Rattle.std.proofs.lemmas.List.Sums.{get_or-le-sum_by}
use Rattle.vm_types.specs.declared.limits.TheConstants.{MOST_SECTION_PAGES}
use Rattle.vm_types.specs.Configuration.{section_pages}
use Rattle.vm_types.specs.declared.config.Section.{Section}
use Rattle.vm_types.specs.declared.names.Page.{Page}
use Rattle.pager_model.specs.DirtyPages.{pages_from}
use Rattle.log_report.specs.SharedPages.{shared_pages_of}

-- one page more of a row
pub page_added : (row : ℕ → Page) (n : ℕ) (first old new : List Page) → old ≡ first ++ map row (range_with_len 0 n) → new ≡ old ++ row n ∷ [] → new ≡ first ++ map row (range_with_len 0 (n + 1))
page_added row n first old new before added =
    added
    ∙ (ap (λ (xs : List Page). xs ++ row n ∷ []) before
    ∙ (append_assoc first (map row (range_with_len 0 n)) (row n ∷ []) ∙ ap (λ (xs : List Page). first ++ xs) (sym (map-range_with_len_more row 0 n n (omega arith)))))

-- one section more, before those that are left
pub section_added : (sections : List Section) (s : ℕ) (section : Section) (old new all : List Page) → s < length sections → section ≡ slice_index_or sections s section → new ≡ old ++ shared_pages_of s section
    → old ++ pages_from s (drop s sections) ≡ all → new ++ pages_from (s + 1) (drop (s + 1) sections) ≡ all
section_added sections s section old new all within read added before =
    ap (λ (xs : List Page). xs ++ left) added
    ∙ (append_assoc old (shared_pages_of s section) left ∙ (ap (λ (xs : List Section). old ++ pages_from s xs) (sym next) ∙ before))
  where
    left : List Page
    left = pages_from (s + 1) (drop (s + 1) sections)

    next : drop s sections ≡ section ∷ drop (s + 1) sections
    next = drop_more sections s section within ∙ ap (λ (x : Section). x ∷ drop (s + 1) sections) (sym read)

-- sections have few pages
pub few_pages : (sections : List Section) → sum_by section_pages sections ≤ MOST_SECTION_PAGES → All (λ (section : Section). section_pages section ≤ MOST_SECTION_PAGES) sections
few_pages sections few k d within = omega (arith, get_or-le-sum_by section_pages sections k d within, few)
