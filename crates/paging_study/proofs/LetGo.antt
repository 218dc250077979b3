-- Where an interval begins, by the list of their ends.
use Rattle.std.proofs.Common.{◌≡◌, ℕ, suc, zero, ◌<◌, ◌≤◌, Bool, true, false, List, [], ◌∷◌, ◌++◌, ◌+◌, cond, sym, ◌∙◌, ap, inl, inr, arith, eqb, ltb}
use Rattle.std.proofs.lemmas.Bool.{cases_Bool, eqb-true, eq-eqb, lt-ltb, ltb-true, false_from_ne_true}
use Rattle.paging_study.specs.Places.{any_place}
use Rattle.paging_study.specs.Intervals.{begins}
use Rattle.paging_study.specs.Dropped.{places_with}
use Rattle.paging_study.specs.Least.{AreEnds}
use Rattle.paging_study.proofs.Begins.{any_place-some, any_place-from}

module _ (page : ℕ → ℕ) (places : ℕ) (ends : ℕ → ℕ) (are : AreEnds page places ends) (i : ℕ) (below : i < places) where
  from_end : (end : ℕ) → 1 ≤ end → end ≤ places → begins page end ≡ suc i → any_place (λ e. eqb (begins page e) (suc i)) places ≡ true
  from_end zero some within at = absurd (omega arith)
  from_end (suc n) some within at = any_place-from (λ e. eqb (begins page e) (suc i)) places n (omega arith) (eq-eqb (begins page (suc n)) (suc i) at)

  -- an interval begins at the place if it has an end there
  pub end_there : ltb 0 (ends (suc i)) ≡ any_place (λ e. eqb (begins page e) (suc i)) places
  end_there = elim (cases_Bool (ltb 0 (ends (suc i)))) [
    | inl some ↦
        let at : 0 < ends (suc i) = ltb-true 0 (ends (suc i)) some in
        let end = are.only i below at in
        some ∙ sym (from_end (ends (suc i)) at end.0 end.1)
    | inr none ↦
        none ∙ sym (false_from_ne_true _ (λ is.
        let found = any_place-some (λ e. eqb (begins page e) (suc i)) places is in
        let begins_here : begins page (suc found.0) ≡ suc i = eqb-true (begins page (suc found.0)) (suc i) found.2 in
        let end : ends (begins page (suc found.0)) ≡ suc found.0 = are.begun found.0 found.1 (omega arith) in
        let end_here : ends (suc i) ≡ suc found.0 = ap ends (sym begins_here) ∙ end in
        let yes : ltb 0 (ends (suc i)) ≡ true = lt-ltb 0 (ends (suc i)) (omega arith) in
        let both : false ≡ true = sym none ∙ yes in cc))
  ]

-- one more place
pub pushed : (test : ℕ → Bool) (n place : ℕ) (is : Bool) (before after : List ℕ) → before ≡ places_with test n → place ≡ suc n → is ≡ test (suc n)
    → after ≡ before ++ cond is (place ∷ []) [] → after ≡ places_with test (n + 1)
pushed test n place is before after so_far at same added =
    let next : suc n ≡ n + 1 = omega arith in
    added ∙ ap (λ xs. xs ++ cond is (place ∷ []) []) so_far ∙ ap (λ p. places_with test n ++ cond is (p ∷ []) []) at ∙ ap (λ b. places_with test n ++ cond b (suc n ∷ []) []) same ∙ ap (places_with test) next
