-- Where an interval begins.
use Rattle.std.proofs.Common.{◌≡◌, ℕ, suc, zero, ◌<◌, ◌≤◌, Bool, true, false, ap, sym, ◌∙◌, subst, inl, inr, arith, eqb}
use Rattle.std.proofs.lemmas.Bool.{cases_lt, cases_eq, cases_Bool, false_from_ne_true, eqb-true, eq-eqb, or_cases, or_left, or_right, and_parts, and_from, ltb-true, leb-true, lt-ltb, le-leb}
use Rattle.paging_study.specs.Places.{one_if, count_places, last_place, any_place}
use Rattle.paging_study.specs.Intervals.{begins, is_inside}
use Rattle.paging_study.proofs.Counts.{last_place-le, last_place-passes, count_none}

-- the last place that passes is no earlier than any that does
pub last_place-ge : (f : ℕ → Bool) (n i : ℕ) → i < n → f (suc i) ≡ true → suc i ≤ last_place f n
last_place-ge f zero i below passes = absurd (omega arith)
last_place-ge f (suc n) i below passes = elim (cases_eq i n) [
  | inl same ↦ let here : f (suc n) ≡ true = subst (λ (j : ℕ). f (suc j) ≡ true) same passes in rw here (omega arith)
  | inr other ↦
      let earlier : i < n = elim (cases_lt i n) [ inl lt ↦ lt | inr le ↦ absurd (other (omega arith)) ] in
      let before : suc i ≤ last_place f n = last_place-ge f n i earlier passes in
      elim (cases_Bool (f (suc n))) [
        | inl here ↦ rw here (omega arith)
        | inr later ↦ rw later before
      ]
]

-- a place that passes
pub any_place-some : (f : ℕ → Bool) (n : ℕ) → any_place f n ≡ true → (i : ℕ) × (i < n) × (f (suc i) ≡ true)
any_place-some f zero some = cc
any_place-some f (suc n) some = elim (or_cases (any_place f n) (f (suc n)) some) [
  | inl before ↦ let found = any_place-some f n before in (found.0, omega (arith, found.1), found.2)
  | inr here ↦ (n, omega arith, here)
]

pub any_place-from : (f : ℕ → Bool) (n i : ℕ) → i < n → f (suc i) ≡ true → any_place f n ≡ true
any_place-from f zero i below passes = absurd (omega arith)
any_place-from f (suc n) i below passes = elim (cases_eq i n) [
  | inl same ↦ or_right (any_place f n) (f (suc n)) (subst (λ (j : ℕ). f (suc j) ≡ true) same passes)
  | inr other ↦ or_left (any_place f n) (f (suc n)) (any_place-from f n i (elim (cases_lt i n) [ inl lt ↦ lt | inr le ↦ absurd (other (omega arith)) ]) passes)
]

module _ (page : ℕ → ℕ) where
  pub begins-lt : (n : ℕ) → begins page (suc n) ≤ n
  begins-lt n = last_place-le (λ i. eqb (page i) (page (suc n))) n

  -- an interval has one page at its two ends
  pub begins-page : (n : ℕ) → 1 ≤ begins page (suc n) → page (begins page (suc n)) ≡ page (suc n)
  begins-page n some = eqb-true _ _ (last_place-passes (λ i. eqb (page i) (page (suc n))) n some)

  -- and not between them
  pub begins-ge : (n i : ℕ) → i < n → page (suc i) ≡ page (suc n) → suc i ≤ begins page (suc n)
  begins-ge n i below same = last_place-ge (λ i. eqb (page i) (page (suc n))) n i below (eq-eqb _ _ same)

  -- no two intervals begin at one place: the earlier end would be inside the later interval
  begins-apart : (n m : ℕ) → n < m → 1 ≤ begins page (suc n) → begins page (suc n) ≡ begins page (suc m) → ⊥
  begins-apart n m below some same =
      let page_is : page (begins page (suc m)) ≡ page (suc m) = begins-page m (omega arith) in
      let there : page (suc n) ≡ page (suc m) = sym (begins-page n some) ∙ ap page same ∙ page_is in
      omega (arith, begins-ge m n below there, begins-lt n)

  pub begins-one : (n m : ℕ) → 1 ≤ begins page (suc n) → begins page (suc n) ≡ begins page (suc m) → n ≡ m
  begins-one n m some same = elim (cases_lt n m) [
    | inl below ↦ absurd (begins-apart n m below some same)
    | inr above ↦ elim (cases_eq n m) [
      | inl equal ↦ equal
      | inr other ↦ absurd (begins-apart m n (elim (cases_lt m n) [ inl lt ↦ lt | inr le ↦ absurd (other (omega arith)) ]) (omega arith) (sym same))
    ]
  ]

  apart_eqb : (b n i : ℕ) → 1 ≤ b → i < n → begins page (suc n) ≡ b → eqb (begins page (suc i)) b ≡ false
  apart_eqb b n i some below here = false_from_ne_true _ (λ there.
      let same : begins page (suc i) ≡ b = eqb-true _ _ there in
      begins-apart i n below (omega arith) (same ∙ sym here))

  -- at most one interval begins at a place
  pub begin_once : (b n : ℕ) → 1 ≤ b → count_places (λ end. eqb (begins page end) b) n ≤ 1
  begin_once b zero some = omega arith
  begin_once b (suc n) some = elim (cases_Bool (eqb (begins page (suc n)) b)) [
    | inr other ↦
        let none : one_if (eqb (begins page (suc n)) b) ≡ 0 = ap one_if other in
        omega (arith, begin_once b n some)
    | inl here ↦
        let one : one_if (eqb (begins page (suc n)) b) ≡ 1 = ap one_if here in
        let here' : begins page (suc n) ≡ b = eqb-true _ _ here in
        let none : count_places (λ end. eqb (begins page end) b) n ≡ 0 = count_none (λ end. eqb (begins page end) b) n (λ i below. apart_eqb b n i some below here') in
        omega arith
  ]

  -- the parts of what is inside
  pub record Inside (place end : ℕ) : Type 0 where
    pub interval : 1 ≤ begins page end
    pub first : begins page end < place
    pub past : place < end

  pub inside : (place end : ℕ) → is_inside page place end ≡ true → Inside place end
  inside place end is =
      let parts = and_parts _ _ is in
      let parts' = and_parts _ _ parts.0 in
      record { interval = leb-true _ _ parts'.0; first = ltb-true _ _ parts'.1; past = ltb-true _ _ parts.1 }

  pub inside_from : (place end : ℕ) → 1 ≤ begins page end → begins page end < place → place < end → is_inside page place end ≡ true
  inside_from place end interval first past = and_from _ _ (and_from _ _ (le-leb _ _ interval) (lt-ltb _ _ first)) (lt-ltb _ _ past)
