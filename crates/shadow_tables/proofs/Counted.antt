-- How often pages stand in a list, and how many frames hold them, after a change.
use Rattle.std.proofs.Common.{◌≡◌, ℕ, zero, suc, ◌+◌, ◌<◌, ◌≤◌, ◌↔◌, ◌||◌, Bool, true, false, cond, not, List, [], ◌∷◌, Option, Some, None, filter, length, count_by, nat_eq, slice_get, slice_set, slice_index_or, refl, sym, ap, ◌∙◌, true≢false, arith}
use Rattle.std.proofs.lemmas.Bool.{ne_eqb}
use Rattle.std.proofs.lemmas.List.Sums.{length-filter, sum_by-set, sum_by_more_le}
use Rattle.std.proofs.lemmas.List.Filters.{length-filter_both}
use Rattle.std.proofs.lemmas.Option.{get_or_from_slice_get, slice_get_within}
use Rattle.std.specs.List.{list_any}
use Rattle.vm_types.specs.Same.{same_page}
use Rattle.vm_types.specs.declared.names.Page.{Page}
use Rattle.pager_model.specs.Changes.{without_page}
use Rattle.pager_model.specs.Lookups.{count_page}
use Rattle.pager_model.specs.Sets.{at_page}
use Rattle.pager_rules.proofs.Basics.{count_cons_no, count_cons_yes, pages_equal, same_from_equal}
use Rattle.pager_rules.proofs.Put.{page_apart}
use Rattle.shadow_tables.specs.Listed.{ArePageCounts, AreHolders, held_by, or_none}
use Rattle.shadow_tables.proofs.Dropped.{dropped_other, dropped_own}

pub apart : (g h : Page) → same_page g h ≡ false → same_page h g ≡ false
apart g h other = page_apart h g (λ same. true≢false (sym (same_from_equal g h (sym same)) ∙ other))

-- ---- a list of pages
module _ (pages : List Page) (counts : Page → Option ℕ) (len : ℕ) (are : ArePageCounts pages counts len) (g : Page) where
  each_put : (n : ℕ) → n ≡ count_page pages g + 1 → (h : Page) → or_none (at_page counts g (Some n) h) ≡ count_page (g ∷ pages) h
  each_put n is h = go (same_page g h) refl
    where
      go : (b : Bool) → same_page g h ≡ b → or_none (cond b (Some n) (counts h)) ≡ count_page (g ∷ pages) h
      go true here =
          let same = pages_equal g h here in
          let at = ap (count_page pages) same in
          let more = count_cons_yes (same_page h) g pages (same_from_equal h g (sym same)) in
          omega (arith, is, at, more)
      go false other = are.each h ∙ sym (count_cons_no (same_page h) g pages (apart g h other))

  pub counts_put : (n : ℕ) → n ≡ count_page pages g + 1 → ArePageCounts (g ∷ pages) (at_page counts g (Some n)) (len + 1)
  counts_put n is = record { each = each_put n is; all = omega (arith, are.all) }

  each_removed : (h : Page) → or_none (at_page counts g None h) ≡ count_page (without_page pages g) h
  each_removed h = go (same_page g h) refl
    where
      go : (b : Bool) → same_page g h ≡ b → or_none (cond b None (counts h)) ≡ count_page (without_page pages g) h
      go true here = sym (dropped_own (same_page g) pages) ∙ ap (count_page (without_page pages g)) (pages_equal g h here)
      go false other =
          are.each h
          ∙ sym (dropped_other (same_page h) (same_page g) (λ x is. ap (same_page h) (sym (pages_equal g x is)) ∙ apart g h other) pages)

  pub counts_removed : (n : ℕ) → n + count_page pages g ≡ len → ArePageCounts (without_page pages g) (at_page counts g None) n
  counts_removed n is =
      let both = length-filter_both (same_page g) (λ (x : Page). not (same_page g x)) (λ x. refl) pages in
      let gone = length-filter (same_page g) pages in
      record { each = each_removed; all = omega (arith, is, both, gone, are.all) }

-- ---- the pages that frames hold
module _ (held : List (Option Page)) (counts : Page → Option ℕ) (are : AreHolders held counts) (f : ℕ) (within : f < length held) where
  abbrev one : Page → Option Page → ℕ
  one g o = cond (held_by g o) 1 0

  moved : (g : Page) (was : Option Page) (o : Option Page) → slice_index_or held f None ≡ was
      → count_by (held_by g) (slice_set held f o) + one g was ≡ count_by (held_by g) held + one g o
  moved g was o is =
      let whole = sum_by-set (one g) held f o None within in
      let there = ap (one g) is in
      omega (arith, whole, there)

  pub holders_idle : slice_index_or held f None ≡ None → AreHolders (slice_set held f None) counts
  holders_idle is g = let whole = moved g None None is in omega (arith, whole, are g)

  pub holders_clear : (page : Page) (n : ℕ) → slice_index_or held f None ≡ Some page → n + 1 ≡ count_by (held_by page) held → AreHolders (slice_set held f None) (at_page counts page (Some n))
  holders_clear page n is less h = go (same_page page h) refl
    where
      go : (b : Bool) → same_page page h ≡ b → or_none (cond b (Some n) (counts h)) ≡ count_by (held_by h) (slice_set held f None)
      go true here =
          let same = pages_equal page h here in
          let at = ap (λ k. count_by (held_by k) held) same in
          let whole = moved h (Some page) None is in
          let passes = ap (λ (b : Bool). cond {A = ℕ} b 1 0) (same_from_equal h page (sym same)) in
          omega (arith, less, at, whole, passes)
      go false other =
          let whole = moved h (Some page) None is in
          let fails = ap (λ (b : Bool). cond {A = ℕ} b 1 0) (apart page h other) in
          omega (arith, whole, fails, are h)

  pub holders_fill : (page : Page) (n : ℕ) → slice_index_or held f None ≡ None → n ≡ count_by (held_by page) held + 1 → AreHolders (slice_set held f (Some page)) (at_page counts page (Some n))
  holders_fill page n is more h = go (same_page page h) refl
    where
      go : (b : Bool) → same_page page h ≡ b → or_none (cond b (Some n) (counts h)) ≡ count_by (held_by h) (slice_set held f (Some page))
      go true here =
          let same = pages_equal page h here in
          let at = ap (λ k. count_by (held_by k) held) same in
          let whole = moved h None (Some page) is in
          let passes = ap (λ (b : Bool). cond {A = ℕ} b 1 0) (same_from_equal h page (sym same)) in
          omega (arith, more, at, whole, passes)
      go false other =
          let whole = moved h None (Some page) is in
          let fails = ap (λ (b : Bool). cond {A = ℕ} b 1 0) (apart page h other) in
          omega (arith, whole, fails, are h)

-- ---- whether a frame holds a page
abbrev NoneHolds : List (Option Page) → Page → Type 0
NoneHolds held g = (f : ℕ) → slice_get held f ≡ Some (Some g) → ⊥

pub none_holds : (held : List (Option Page)) (g : Page) → count_by (held_by g) held ≡ 0 → NoneHolds held g
none_holds held g none f is =
    let there = get_or_from_slice_get held f (Some g) None is in
    let part = sum_by_more_le (λ (o : Option Page). cond (held_by g o) 1 0) held f None (slice_get_within held f (Some g) is) in
    let counts = ap (λ (o : Option Page). cond {A = ℕ} (held_by g o) 1 0) there ∙ ap (λ (b : Bool). cond {A = ℕ} b 1 0) (same_from_equal g g refl) in
    absurd (omega (arith, part, counts, none))

pub none_counted : (held : List (Option Page)) (g : Page) → NoneHolds held g → count_by (held_by g) held ≡ 0
none_counted [] g none = refl
none_counted (None ∷ held) g none = count_cons_no (held_by g) None held refl ∙ none_counted held g (λ f is. none (suc f) is)
none_counted (Some h ∷ held) g none = go (same_page g h) refl (none_counted held g (λ f is. none (suc f) is))
  where
    go : (b : Bool) → same_page g h ≡ b → count_by (held_by g) held ≡ 0 → count_by (held_by g) (Some h ∷ held) ≡ 0
    go true here rest = absurd (none 0 (ap (λ (k : Page). Some (Some k)) (sym (pages_equal g h here))))
    go false other rest = count_cons_no (held_by g) (Some h) held other ∙ rest

-- ---- whether a page is in a list
pub has_counted : (p : Page → Bool) (pages : List Page) → not (nat_eq (count_by p pages) 0) ≡ list_any p pages
has_counted p [] = refl
has_counted p (x ∷ pages) = go (p x) refl (has_counted p pages)
  where
    go : (b : Bool) → p x ≡ b → not (nat_eq (count_by p pages) 0) ≡ list_any p pages → not (nat_eq (count_by p (x ∷ pages)) 0) ≡ (b || list_any p pages)
    go true is rest = let more = count_cons_yes p x pages is in ap not (ne_eqb (count_by p (x ∷ pages)) 0 (λ e. omega (arith, e, more)))
    go false is rest = ap (λ (n : ℕ). not (nat_eq n 0)) (count_cons_no p x pages is) ∙ rest
