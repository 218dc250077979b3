-- Lists without what passes a test.
use Rattle.std.proofs.Common.{◌≡◌, ℕ, ◌+◌, ◌≤◌, Bool, true, false, cond, not, List, [], ◌∷◌, filter, find, count_by, nat_eq, refl, sym, ap, ◌∙◌, arith}
use Rattle.page_lists.specs.Lists.{IsOn, IsOnNone, TwoLists, AreTwoLists, count_of, without}
use Rattle.page_lists.specs.declared.list_name.ListName.TheVariants.{Free, Modified}
use Rattle.pager_rules.proofs.Basics.{count_cons_no, count_cons_yes, find_cons_no, find_cons_yes}
use Rattle.pager_rules.proofs.Lists.{filter_all}

pub dropped_own : {X : Type 0} (q : X → Bool) (xs : List X) → count_by q (filter (λ (y : X). not (q y)) xs) ≡ 0
dropped_own q [] = refl
dropped_own {X} q (x ∷ xs) = go (q x) refl (dropped_own q xs)
  where
    rest : List X
    rest = filter (λ (y : X). not (q y)) xs

    go : (c : Bool) → q x ≡ c → count_by q rest ≡ 0 → count_by q (cond (not c) (x ∷ rest) rest) ≡ 0
    go true is none = none
    go false is none = count_cons_no q x rest is ∙ none

pub dropped_other : {X : Type 0} (p q : X → Bool) → ((x : X) → q x ≡ true → p x ≡ false) → (xs : List X) → count_by p (filter (λ (y : X). not (q y)) xs) ≡ count_by p xs
dropped_other p q far [] = refl
dropped_other {X} p q far (x ∷ xs) = go (q x) refl (dropped_other p q far xs)
  where
    rest : List X
    rest = filter (λ (y : X). not (q y)) xs

    go : (c : Bool) → q x ≡ c → count_by p rest ≡ count_by p xs → count_by p (cond (not c) (x ∷ rest) rest) ≡ count_by p (x ∷ xs)
    go true is same = same ∙ sym (count_cons_no p x xs (far x is))
    go false is same = step (p x) refl
      where
        step : (d : Bool) → p x ≡ d → count_by p (x ∷ rest) ≡ count_by p (x ∷ xs)
        step true is_p = count_cons_yes p x rest is_p ∙ (ap (λ (n : ℕ). 1 + n) same ∙ sym (count_cons_yes p x xs is_p))
        step false other = count_cons_no p x rest other ∙ (same ∙ sym (count_cons_no p x xs other))

pub dropped_find : {X : Type 0} (p q : X → Bool) → ((x : X) → q x ≡ true → p x ≡ false) → (xs : List X) → find p (filter (λ (y : X). not (q y)) xs) ≡ find p xs
dropped_find p q far [] = refl
dropped_find {X} p q far (x ∷ xs) = go (q x) refl (dropped_find p q far xs)
  where
    rest : List X
    rest = filter (λ (y : X). not (q y)) xs

    go : (c : Bool) → q x ≡ c → find p rest ≡ find p xs → find p (cond (not c) (x ∷ rest) rest) ≡ find p (x ∷ xs)
    go true is same = same ∙ sym (find_cons_no p x xs (far x is))
    go false is same = step (p x) refl
      where
        step : (d : Bool) → p x ≡ d → find p (x ∷ rest) ≡ find p (x ∷ xs)
        step true is_p = find_cons_yes p x rest is_p ∙ sym (find_cons_yes p x xs is_p)
        step false other = find_cons_no p x rest other ∙ (same ∙ sym (find_cons_no p x xs other))

-- a frame that is on neither list, or on the other
pub without_none : (lists : TwoLists) (f : ℕ) → IsOnNone lists f → without lists.free f ≡ lists.free
without_none lists f none = filter_all (λ (other : ℕ). nat_eq other f) lists.free none.0

pub without_modified : (lists : TwoLists) (f : ℕ) → AreTwoLists lists → IsOn lists Modified f → without lists.free f ≡ lists.free
without_modified lists f two on =
    let once = two.once f in
    filter_all (λ (other : ℕ). nat_eq other f) lists.free (omega (arith, once, on))
