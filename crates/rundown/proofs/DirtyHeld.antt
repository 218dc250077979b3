-- Whether a page is held with modify set, by the frame that holds it, and lists of such pages.
use Rattle.std.proofs.Common.{◌≡◌, ℕ, ◌+◌, ◌<◌, ◌≤◌, ◌&&◌, ◌||◌, Bool, true, false, cond, List, [], ◌∷◌, ◌++◌, Option, Some, None, drop, filter, find, length, map, slice_get, slice_index_or, refl, sym, ap, ◌∙◌, arith}
use Rattle.std.specs.Prelude.{sum_by}
use Rattle.std.specs.List.{AllByRecursion, list_any, range_with_len}
use Rattle.std.specs.Option.{option_map}
use Rattle.std.proofs.lemmas.Bool.{false≢true}
use Rattle.std.proofs.lemmas.List.{append-nil, append_assoc, drop_more}
use Rattle.std.proofs.lemmas.List.Elements.{filter-append}
use Rattle.std.proofs.lemmas.List.FromFn.{map-range_with_len_more}
use Rattle.std.proofs.lemmas.List.Sums.{get_or-le-sum_by}
use Rattle.std.proofs.lemmas.Option.{get_or_from_slice_get, none-some, same_Some, slice_get_within}
use Rattle.vm_types.specs.declared.limits.TheConstants.{MOST_SECTION_PAGES}
use Rattle.vm_types.specs.Configuration.{IsWellFormed, section_pages}
use Rattle.vm_types.specs.declared.config.Config.{Config}
use Rattle.vm_types.specs.declared.config.Section.{Section}
use Rattle.vm_types.specs.declared.names.Page.{Page}
use Rattle.vm_types.specs.declared.names.Pfn.{Pfn}
use Rattle.vm_journal.specs.declared.entry.Entry.{Entry}
use Rattle.pager_model.specs.Around.{past_view}
use Rattle.pager_model.specs.Forget.{holder, holds_page}
use Rattle.pager_model.specs.Maps.{pfn}
use Rattle.pager_model.specs.Pager.{Pager}
use Rattle.pager_model.specs.Run.{IsRun, pager_after}
use Rattle.pager_model.specs.DirtyPages.{is_dirty, pages_from}
use Rattle.pager_rules.proofs.Basics.{none_passes, pages_equal}
use Rattle.pager_rules.specs.Kept.{IsKept}
use Rattle.pager_laws.proofs.RunsAreSound.{run_kept}
use Rattle.pager_laws.proofs.Holders.{holder_holds}
use Rattle.rundown.specs.DirtyPages.{shared_pages_of}

-- ---- tests of which one is met at one number at most
module _ (h m : ℕ → Bool) where
  abbrev both : ℕ → Bool
  both n = h n && m n

  none_meets : (xs : List ℕ) → find h xs ≡ None → list_any both xs ≡ false
  none_meets [] is = refl
  none_meets (x ∷ xs) is = go (h x) is (none_meets xs)
    where
      go : (b : Bool) → cond b (Some x) (find h xs) ≡ None → (find h xs ≡ None → list_any both xs ≡ false) → ((b && m x) || list_any both xs) ≡ false
      go true is rest = absurd (none-some x (sym is))
      go false is rest = rest is

  module _ (f : ℕ) (only : (n : ℕ) → h n ≡ true → n ≡ f) where
    fails_at : m f ≡ false → (n : ℕ) → both n ≡ false
    fails_at fails n = by (h n) refl
      where
        by : (b : Bool) → h n ≡ b → (b && m n) ≡ false
        by true is = ap m (only n is) ∙ fails
        by false is = refl

    each_at : m f ≡ false → (xs : List ℕ) → AllByRecursion (λ (n : ℕ). both n ≡ false) xs
    each_at fails [] = tt
    each_at fails (x ∷ xs) = (fails_at fails x, each_at fails xs)

    settled : (xs : List ℕ) (b : Bool) → m f ≡ b → (b || list_any both xs) ≡ b
    settled xs true is = refl
    settled xs false is = none_passes both xs (each_at is xs)

    one_meets : (xs : List ℕ) → find h xs ≡ Some f → list_any both xs ≡ m f
    one_meets [] is = absurd (none-some f is)
    one_meets (x ∷ xs) is = go (h x) is (one_meets xs)
      where
        go : (b : Bool) → cond b (Some x) (find h xs) ≡ Some f → (find h xs ≡ Some f → list_any both xs ≡ m f) → ((b && m x) || list_any both xs) ≡ m f
        go true is rest = ap (λ (n : ℕ). m n || list_any both xs) (same_Some x f is) ∙ settled xs (m f) refl
        go false is rest = rest is

-- ---- the frame that holds a page
held_page : (g : Page) (o : Option Page) → holds_page g o ≡ true → o ≡ Some g
held_page g None is = absurd (false≢true is)
held_page g (Some h) is = ap Some (pages_equal h g is)

module _ (config : Config) (past : List Entry) (page : Page) where
  abbrev a : Pager
  a = pager_after config past

  abbrev holds : ℕ → Bool
  holds f = holds_page page (a.page f)

  pub dirty_held : IsWellFormed config → IsRun config past → (f : ℕ) → holder config a.page page ≡ Some f → a.modify f ≡ is_dirty config a page
  dirty_held formed run f is = sym (one_meets holds a.modify f only (range_with_len 0 config.frames) is)
    where
      kept : IsKept config (past_view past) a
      kept = run_kept config past formed run

      only : (n : ℕ) → holds n ≡ true → n ≡ f
      only n meets = kept.held_once n f page (held_page page (a.page n) meets) (holder_holds config a.page page f is)

  pub clean_unheld : holder config a.page page ≡ None → false ≡ is_dirty config a page
  clean_unheld is = sym (none_meets holds a.modify (range_with_len 0 config.frames) is)

-- what a reader shows of the frame
pub shown_frame : (o : Option ℕ) (f : Pfn) → option_map pfn o ≡ Some f → o ≡ Some f.0
shown_frame None f is = absurd (none-some f is)
shown_frame (Some n) f is = ap (λ (x : Pfn). Some x.0) (same_Some (pfn n) f is)

pub shown_none : (o : Option ℕ) → option_map pfn o ≡ None → o ≡ None
shown_none None is = refl
shown_none (Some n) is = absurd (none-some (pfn n) (sym is))

-- ---- pages that are added one after another
module _ (t : Page → Bool) where
  pub one_added : (page : Page) (old new : List Page) → t page ≡ true → new ≡ old ++ page ∷ [] → new ≡ old ++ filter t (page ∷ [])
  one_added page old new is added = added ∙ ap (λ (b : Bool). old ++ cond b (page ∷ []) []) (sym is)

  pub none_added : (page : Page) (old : List Page) → t page ≡ false → old ≡ old ++ filter t (page ∷ [])
  none_added page old is = sym (ap (λ (b : Bool). old ++ cond b (page ∷ []) []) is ∙ append-nil old)

  -- those of the first n pages of a row were added
  pub more_added : (row : ℕ → Page) (n : ℕ) (first old new : List Page) → old ≡ first ++ filter t (map row (range_with_len 0 n)) → new ≡ old ++ filter t (row n ∷ []) → new ≡ first ++ filter t (map row (range_with_len 0 (n + 1)))
  more_added row n first old new before added =
      added
      ∙ (ap (λ (xs : List Page). xs ++ filter t (row n ∷ [])) before
      ∙ (append_assoc first (filter t so_far) (filter t (row n ∷ []))
      ∙ (ap (λ (xs : List Page). first ++ xs) (sym (filter-append t so_far (row n ∷ []))) ∙ ap (λ (xs : List Page). first ++ filter t xs) (sym (map-range_with_len_more row 0 n n (omega arith))))))
    where
      so_far : List Page
      so_far = map row (range_with_len 0 n)

  -- those of one section more were added, before those of the sections that are left
  pub section_added : (sections : List Section) (s : ℕ) (section : Section) (old new all : List Page) → s < length sections → section ≡ slice_index_or sections s section → new ≡ old ++ filter t (shared_pages_of s section)
      → old ++ filter t (pages_from s (drop s sections)) ≡ all → new ++ filter t (pages_from (s + 1) (drop (s + 1) sections)) ≡ all
  section_added sections s section old new all within read added before =
      ap (λ (xs : List Page). xs ++ filter t left) added
      ∙ (append_assoc old (filter t (shared_pages_of s section)) (filter t left)
      ∙ (ap (λ (xs : List Page). old ++ xs) (sym (filter-append t (shared_pages_of s section) left))
      ∙ (ap (λ (xs : List Section). old ++ filter t (pages_from s xs)) (sym next) ∙ before)))
    where
      left : List Page
      left = pages_from (s + 1) (drop (s + 1) sections)

      next : drop s sections ≡ section ∷ drop (s + 1) sections
      next = drop_more sections s section within ∙ ap (λ (x : Section). x ∷ drop (s + 1) sections) (sym read)

-- ---- sections have few pages
pub few_pages : (sections : List Section) (s : ℕ) (x : Section) → sum_by section_pages sections ≤ MOST_SECTION_PAGES → slice_get sections s ≡ Some x → section_pages x ≤ MOST_SECTION_PAGES
few_pages sections s x few is =
    let most = get_or-le-sum_by section_pages sections s x (slice_get_within sections s x is) in
    let same = ap section_pages (get_or_from_slice_get sections s x x is) in
    omega (arith, most, same, few)
