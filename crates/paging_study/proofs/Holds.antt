-- A set of ends after one leaves or joins it.
use Rattle.std.proofs.Common.{◌≡◌, ℕ, suc, ◌+◌, ◌-◌, ◌<◌, ◌≤◌, Bool, true, false, List, length, get_or, set, ap, sym, ◌∙◌, refl, subst, inl, inr, arith, eqb, ◌&&◌, ◌||◌, not}
use Rattle.std.proofs.lemmas.Bool.{cases_eq, both_ways, false_from_ne_true, eq-eqb, ne_eqb, and_right, or_right, not_from_true, not_from_false}
use Rattle.std.proofs.lemmas.List.{get_or-set_same, get_or-set_other}
use Rattle.paging_study.specs.Places.{flag_at, count_places}
use Rattle.paging_study.specs.Open.{HoldsPlaces, LosesLast}
use Rattle.paging_study.proofs.Counts.{count_same, same_past}

-- the tests agree on the places
pub holds_same : (s : List Bool) (f g : ℕ → Bool) (places : ℕ) → ((i : ℕ) → i < places → f (suc i) ≡ g (suc i)) → HoldsPlaces s f places → HoldsPlaces s g places
holds_same s f g places same h = record { has_it = λ i below. h.has_it i below ∙ same i below; only = h.only }

and_not : (b c : Bool) → c ≡ false → (b && not c) ≡ b
and_not true c none = not_from_false c none
and_not false c none = refl

or_not : (b c : Bool) → c ≡ false → (b || c) ≡ b
or_not true c none = refl
or_not false c none = none

module _ (s : List Bool) (f : ℕ → Bool) (places : ℕ) (h : HoldsPlaces s f places) where
  -- 0 is no place
  pub holds_with_none : HoldsPlaces s (λ end. f end || eqb end 0) places
  holds_with_none = holds_same s f (λ end. f end || eqb end 0) places (λ i below. sym (or_not (f (suc i)) (eqb (suc i) 0) (ne_eqb _ _ (λ e. omega arith)))) h

  pub holds_without_none : HoldsPlaces s (λ end. f end && not (eqb end 0)) places
  holds_without_none = holds_same s f (λ end. f end && not (eqb end 0)) places (λ i below. sym (and_not (f (suc i)) (eqb (suc i) 0) (ne_eqb _ _ (λ e. omega arith)))) h

  pub holds_without : (i : ℕ) → i < length s → HoldsPlaces (set s i false) (λ end. f end && not (eqb end (suc i))) places
  holds_without i within = record {
    has_it = λ j below. elim (cases_eq j i) [
      | inl at ↦ rw at (get_or-set_same s i false false within ∙ sym (and_right (f (suc i)) (not (eqb (suc i) (suc i))) (not_from_true _ (eq-eqb (suc i) (suc i) refl))))
      | inr other ↦ get_or-set_other s i j false false other ∙ (h.has_it j below ∙ sym (and_not (f (suc j)) (eqb (suc j) (suc i)) (ne_eqb _ _ (λ e. other (omega arith)))))
    ];
    only = λ j there. elim (cases_eq j i) [
      | inl at ↦ absurd (both_ways _ (get_or-set_same s i false false within) (subst (λ (k : ℕ). get_or (set s i false) k false ≡ true) at there))
      | inr other ↦ h.only j (sym (get_or-set_other s i j false false other) ∙ there)
    ];
  }

  pub holds_with : (i : ℕ) → i < length s → i < places → HoldsPlaces (set s i true) (λ end. f end || eqb end (suc i)) places
  holds_with i within i_below = record {
    has_it = λ j below. elim (cases_eq j i) [
      | inl at ↦ rw at (get_or-set_same s i true false within ∙ sym (or_right (f (suc i)) (eqb (suc i) (suc i)) (eq-eqb (suc i) (suc i) refl)))
      | inr other ↦ get_or-set_other s i j true false other ∙ (h.has_it j below ∙ sym (or_not (f (suc j)) (eqb (suc j) (suc i)) (ne_eqb _ _ (λ e. other (omega arith)))))
    ];
    only = λ j there. elim (cases_eq j i) [
      | inl at ↦ omega arith
      | inr other ↦ h.only j (sym (get_or-set_other s i j true false other) ∙ there)
    ];
  }

  -- the set has as many
  pub holds_count : places ≤ length s → count_places (flag_at s) (length s) ≡ count_places f places
  holds_count within =
      let none : (n : ℕ) → places ≤ n → flag_at s (suc n) ≡ false = λ n past. false_from_ne_true _ (λ there. (let below : suc n - 1 < places = h.only (suc n - 1) there in omega arith)) in
      let all : places + (length s - places) ≡ length s = omega arith in
      let past : count_places (flag_at s) (places + (length s - places)) ≡ count_places (flag_at s) places = same_past (flag_at s) places (length s - places) none in
      ap (λ (k : ℕ). count_places (flag_at s) k) (sym all) ∙ (past ∙ count_same (flag_at s) f places (λ i below.
      let at : suc i - 1 ≡ i = omega arith in
      ap (λ (k : ℕ). get_or s k false) at ∙ h.has_it i below))

-- none leaves where there is room for all
pub keeps_all : (s : List Bool) (room : ℕ) → count_places (flag_at s) (length s) ≤ room → (f : ℕ → Bool) (places : ℕ) → places ≤ length s → HoldsPlaces s f places → LosesLast s s room 0 f places
keeps_all s room le f places within h =
    let count : count_places (flag_at s) (length s) ≡ count_places f places = holds_count s f places h within in
    record {
      left = holds_without_none s f places h;
      none = λ le. refl;
      exists = omega arith;
      was_there = λ more. absurd (omega arith);
      last = λ i below there more. absurd (omega arith);
    }

-- the greatest leaves where there is not
pub pops_last : (s : List Bool) (room k : ℕ) → room < count_places (flag_at s) (length s) → k < length s → get_or s k false ≡ true
    → ((i : ℕ) → get_or s i false ≡ true → i ≤ k)
    → (f : ℕ → Bool) (places : ℕ) → places ≤ length s → HoldsPlaces s f places → LosesLast s (set s k false) room (suc k) f places
pops_last s room k more k_within there greatest f places within h =
    let count : count_places (flag_at s) (length s) ≡ count_places f places = holds_count s f places h within in
    let below : k < places = h.only k there in
    record {
      left = holds_without s f places h k k_within;
      none = λ le. absurd (omega arith);
      exists = omega arith;
      was_there = λ more. sym (h.has_it k below) ∙ there;
      last = λ i i_below is more. omega (arith, greatest i (h.has_it i i_below ∙ is));
    }
