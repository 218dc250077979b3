-- Small lemmas about functions changed at one place, what a search finds, and touched pages.
use Rattle.std.proofs.Common.{◌≡◌, ℕ, ◌<◌, ◌⊎◌, Bool, true, false, cond, List, [], ◌∷◌, Some, length, find, count_by, nat_eq, refl, sym, ap, ◌∙◌, subst, ⊎_elim, arith}
use Rattle.std.specs.List.{IsDistinct}
use Rattle.std.specs.Cmp.{IsEquivalence}
use Rattle.std.proofs.lemmas.Bool.{eqb-true, or_cases}
use Rattle.std.proofs.lemmas.Map.Keys.{IsDistinct-cons}
use Rattle.std.proofs.lemmas.Map.Made.{length-le_from_is_member}
use Rattle.vm_types.specs.Same.{same_page}
use Rattle.vm_types.specs.declared.config.Config.{Config}
use Rattle.vm_types.specs.declared.names.Page.{Page}
use Rattle.pager_model.specs.Flat.{touched_with}
use Rattle.pager_model.specs.Lookups.{passes}
use Rattle.pager_model.specs.Maps.{is_paged}
use Rattle.pager_model.specs.Sets.{at_number, has_page}
use Rattle.pager_rules.proofs.Basics.{count_cons, count_cons_yes, each_fails, pages_equal, same_from_equal, same_page_refl}

-- a field of a function with one value changed, where the new value's field is as it was
pub at_number_field : {X Y : Type 0} (field : X → Y) (f : ℕ → X) (n : ℕ) (x : X) → field x ≡ field (f n) → (m : ℕ) → field (at_number f n x m) ≡ field (f m)
at_number_field {X} {Y} field f n x same m = by (nat_eq n m) refl
  where
    by : (b : Bool) → nat_eq n m ≡ b → field (cond b x (f m)) ≡ field (f m)
    by true e = same ∙ ap (λ (k : ℕ). field (f k)) (eqb-true n m e)
    by false e = refl

-- what a search found counts
pub find_counts : {X : Type 0} (test counted : X → Bool) (xs : List X) (e : X) → find test xs ≡ Some e → counted e ≡ true → 0 < count_by counted xs
find_counts test counted [] e found passes = absurd (cc)
find_counts {X} test counted (x ∷ xs) e found passes = by (test x) found (λ later. find_counts test counted xs e later passes)
  where
    by : (b : Bool) → cond b (Some x) (find test xs) ≡ Some e → (find test xs ≡ Some e → 0 < count_by counted xs) → 0 < count_by counted (x ∷ xs)
    by true here rest =
        let same : e ≡ x = cc in
        let step = count_cons_yes counted x xs (subst (λ (y : X). counted y ≡ true) same passes) in
        omega arith
    by false there rest =
        let step = count_cons counted x xs in
        let more = rest there in
        omega arith

-- ---- pages
same_from_ways : (b c : Bool) → (b ≡ true → c ≡ true) → (c ≡ true → b ≡ true) → b ≡ c
same_from_ways true c there back = sym (there refl)
same_from_ways false true there back = back refl
same_from_ways false false there back = refl

pub same_page_equiv : IsEquivalence same_page
same_page_equiv = record {
  refl = same_page_refl;
  symm = λ x y. same_from_ways (same_page x y) (same_page y x)
      (λ e. same_from_equal y x (sym (pages_equal x y e)))
      (λ e. same_from_equal x y (sym (pages_equal y x e)));
  congr = λ x y z e. ap (λ (w : Page). same_page w z) (pages_equal x y e);
}

-- a list without repeats that lies in another, which has a page more, is shorter
pub shorter_list : (xs ys : List Page) (page : Page) → IsDistinct same_page xs → ((x : Page) → has_page xs x ≡ true → has_page ys x ≡ true) → has_page xs page ≡ false → has_page ys page ≡ true → length xs < length ys
shorter_list xs ys page once within out here =
    let longer = IsDistinct-cons same_page page xs (each_fails (same_page page) xs out) once in
    let bound = length-le_from_is_member same_page_equiv (page ∷ xs) ys longer (λ x e. ⊎_elim
    (λ same. subst (λ (z : Page). has_page ys z ≡ true) (sym (pages_equal x page same)) here)
    (within x)
    (or_cases (same_page x page) (has_page xs x) e)) in
    omega arith

pub touched_once : (config : Config) (touched : List Page) (page : Page) → IsDistinct same_page touched → IsDistinct same_page (touched_with config touched page)
touched_once config touched page once = by (is_paged config page) (has_page touched page) refl
  where
    by : (b c : Bool) → has_page touched page ≡ c → IsDistinct same_page (cond b (cond c touched (page ∷ touched)) touched)
    by false c e = once
    by true true e = once
    by true false e = IsDistinct-cons same_page page touched (each_fails (same_page page) touched e) once
