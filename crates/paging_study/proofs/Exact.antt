-- Where each interval that is not kept has a cut inside, each kept one at most one, and each cut
-- lies inside as many kept intervals as there may be, the kept ones are as many as the bound allows.
use Rattle.std.proofs.Common.{◌≡◌, ◌≢◌, ℕ, suc, zero, ◌+◌, ◌-◌, ◌*◌, ◌<◌, ◌≤◌, Bool, true, false, ap, ◌∙◌, refl, inl, inr, arith, leb, ltb, ◌&&◌}
use Rattle.std.proofs.lemmas.Bool.{cases_lt, cases_Bool, ltb-true, le-leb, lt-leb, lt-ltb, le-ltb, and_from, and_parts, and_left, and_right, false_from_ne_true}
use Rattle.paging_study.specs.Places.{one_if, count_places, last_place}
use Rattle.paging_study.specs.Intervals.{begins, is_uncut, is_inside}
use Rattle.paging_study.proofs.Counts.{last_place-le, last_place-passes, count_but_one, count_same, count_none}

-- what the kept intervals and the cuts keep; an interval goes by its end
pub record IsTight (page : ℕ → ℕ) (kept cut : ℕ → Bool) (places room : ℕ) : Type 0 where
  pub interval : (n : ℕ) → n < places → kept (suc n) ≡ true → 1 ≤ begins page (suc n)
  pub covered : (n : ℕ) → n < places → 1 ≤ begins page (suc n) → kept (suc n) ≡ false → begins page (suc n) < last_place cut n
  pub one_cut : (c d n : ℕ) → n < places → cut c ≡ true → cut d ≡ true → begins page (suc n) < c → c < d → d < suc n → kept (suc n) ≡ true → ⊥
  pub full : (n : ℕ) → n < places → cut (suc n) ≡ true → count_places (λ end. kept end && is_inside page (suc n) end) places ≡ room

swap_tests : (a b : Bool) → (a && b) ≡ (b && a)
swap_tests true true = refl
swap_tests true false = refl
swap_tests false true = refl
swap_tests false false = refl

module _ (page : ℕ → ℕ) (kept cut : ℕ → Bool) (places room : ℕ) (tight : IsTight page kept cut places room) where
  -- a kept interval that ends after the place and has the last cut up to it inside
  abbrev spans : ℕ → ℕ → Bool
  spans n end = (kept end && ltb n end) && ltb (begins page end) (last_place cut n)

  abbrev Counted : ℕ → Type 0
  Counted n = count_places kept n + count_places (spans n) places ≡ room * count_places cut n + count_places (is_uncut page cut) n

  -- a place ends a kept interval where it ends one with no cut inside, or a kept one with a cut
  balance : (n : ℕ) → n < places → one_if (kept (suc n)) ≡ one_if (is_uncut page cut (suc n)) + one_if (spans n (suc n))
  balance n within =
      let before : suc n - 1 ≡ n = omega arith in
      elim (cases_Bool (kept (suc n))) [
        | inr dropped ↦ elim (cases_lt 0 (begins page (suc n))) [
          | inr none ↦
              let uncut : leb 1 (begins page (suc n)) ≡ false = lt-leb _ _ (omega arith) in
              rw (dropped, uncut) refl
          | inl some ↦
              let uncut : leb (last_place cut n) (begins page (suc n)) ≡ false = lt-leb _ _ (tight.covered n within (omega arith) dropped) in
              let uncut' : is_uncut page cut (suc n) ≡ false = and_right (leb 1 (begins page (suc n))) (leb (last_place cut (suc n - 1)) (begins page (suc n))) (rw before uncut) in
              rw (dropped, uncut') refl
        ]
        | inl stays ↦
            let some : leb 1 (begins page (suc n)) ≡ true = le-leb _ _ (tight.interval n within stays) in
            let after : ltb n (suc n) ≡ true = lt-ltb _ _ (omega arith) in
            elim (cases_lt (begins page (suc n)) (last_place cut n)) [
              | inl cut_inside ↦
                  let uncut : is_uncut page cut (suc n) ≡ false = and_right (leb 1 (begins page (suc n))) (leb (last_place cut (suc n - 1)) (begins page (suc n))) (rw before (lt-leb _ _ cut_inside)) in
                  let spanned : spans n (suc n) ≡ true = and_from _ _ (and_from _ _ stays after) (lt-ltb _ _ cut_inside) in
                  let kept_one : one_if (kept (suc n)) ≡ 1 = ap one_if stays in
                  let uncut_one : one_if (is_uncut page cut (suc n)) ≡ 0 = ap one_if uncut in
                  let spanned_one : one_if (spans n (suc n)) ≡ 1 = ap one_if spanned in
                  omega arith
              | inr none ↦
                  let uncut : is_uncut page cut (suc n) ≡ true = and_from (leb 1 (begins page (suc n))) (leb (last_place cut (suc n - 1)) (begins page (suc n))) some (rw before (le-leb _ _ none)) in
                  let spanned : spans n (suc n) ≡ false = and_right _ _ (le-ltb _ _ none) in
                  let kept_one : one_if (kept (suc n)) ≡ 1 = ap one_if stays in
                  let uncut_one : one_if (is_uncut page cut (suc n)) ≡ 1 = ap one_if uncut in
                  let spanned_one : one_if (spans n (suc n)) ≡ 0 = ap one_if spanned in
                  omega arith
            ]
      ]

  -- nothing has changed at another place, where no cut is
  same_spans : (n i : ℕ) → last_place cut (suc n) ≡ last_place cut n → i ≢ n → spans n (suc i) ≡ spans (suc n) (suc i)
  same_spans n i last_cut other = rw last_cut (elim (cases_lt n i) [
    | inl later ↦ rw (lt-ltb n (suc i) (omega arith), lt-ltb (suc n) (suc i) (omega arith)) refl
    | inr earlier ↦
        let before : i < n = elim (cases_lt i n) [ inl lt ↦ lt | inr le ↦ absurd (other (omega arith)) ] in
        rw (le-ltb n (suc i) (omega arith), le-ltb (suc n) (suc i) (omega arith)) refl
  ])

  between_cuts : (n : ℕ) → n < places → cut (suc n) ≡ false → Counted n → Counted (suc n)
  between_cuts n within here before =
      let one : one_if (cut (suc n)) ≡ 0 = ap one_if here in
      let cuts : count_places cut (suc n) ≡ count_places cut n = omega arith in
      let cuts' : room * count_places cut (suc n) ≡ room * count_places cut n = ap (λ c. room * c) cuts in
      let last_cut : last_place cut (suc n) ≡ last_place cut n = rw here refl in
      let past : spans (suc n) (suc n) ≡ false = and_left _ _ (and_right _ _ (le-ltb (suc n) (suc n) (omega arith))) in
      let past' : one_if (spans (suc n) (suc n)) ≡ 0 = ap one_if past in
      let change : count_places (spans n) places + one_if (spans (suc n) (suc n)) ≡ count_places (spans (suc n)) places + one_if (spans n (suc n)) =
      count_but_one (spans n) (spans (suc n)) places n within (λ i below other. same_spans n i last_cut other) in
      omega (arith, balance n within)

  -- a kept interval that ends past the cut has no earlier cut inside
  no_earlier : (n i : ℕ) → n < places → i < places → cut (suc n) ≡ true → i ≢ n → spans n (suc i) ≡ false
  no_earlier n i within ends here other = false_from_ne_true _ (λ spanned.
      let parts = and_parts _ _ spanned in
      let parts' = and_parts _ _ parts.0 in
      let after : n < suc i = ltb-true _ _ parts'.1 in
      let first : begins page (suc i) < last_place cut n = ltb-true _ _ parts.1 in
      let later : n < i = elim (cases_lt n i) [ inl lt ↦ lt | inr le ↦ absurd (other (omega arith)) ] in
      tight.one_cut (last_place cut n) (suc n) i ends (last_place-passes cut n (omega arith)) here first (omega (arith, last_place-le cut n)) (omega arith) parts'.0)

  -- at a cut, those that span it are the kept ones with it inside
  spans_cut : (n i : ℕ) → i < places → cut (suc n) ≡ true → spans (suc n) (suc i) ≡ (kept (suc i) && is_inside page (suc n) (suc i))
  spans_cut n i ends here = rw here (elim (cases_Bool (kept (suc i))) [
    | inr dropped ↦ rw dropped refl
    | inl stays ↦
        let some : leb 1 (begins page (suc i)) ≡ true = le-leb _ _ (tight.interval i ends stays) in
        rw (stays, some) (swap_tests (ltb (suc n) (suc i)) (ltb (begins page (suc i)) (suc n)))
  ])

  at_cut : (n : ℕ) → n < places → cut (suc n) ≡ true → Counted n → Counted (suc n)
  at_cut n within here before =
      let one : one_if (cut (suc n)) ≡ 1 = ap one_if here in
      let cuts : count_places cut (suc n) ≡ count_places cut n + 1 = omega arith in
      let product : room * (count_places cut n + 1) ≡ room * count_places cut n + room = grind arith in
      let cuts' : room * count_places cut (suc n) ≡ room * count_places cut n + room = rw cuts product in
      let none : count_places (λ (end : ℕ). false) places ≡ 0 = count_none (λ end. false) places (λ i below. refl) in
      let change : count_places (spans n) places + one_if false ≡ count_places (λ (end : ℕ). false) places + one_if (spans n (suc n)) =
      count_but_one (spans n) (λ end. false) places n within (λ i below other. no_earlier n i within below here other) in
      let all : count_places (spans (suc n)) places ≡ room =
      count_same (spans (suc n)) (λ end. kept end && is_inside page (suc n) end) places (λ i below. spans_cut n i below here) ∙ tight.full n within here in
      omega (arith, balance n within)

  counted : (n : ℕ) → n ≤ places → Counted n
  counted zero within =
      let none : count_places (spans 0) places ≡ 0 = count_none (spans 0) places (λ i below. and_right _ _ (le-ltb (begins page (suc i)) 0 (omega arith))) in
      omega arith
  counted (suc n) within = elim (cases_Bool (cut (suc n))) [
    | inl here ↦ at_cut n (omega arith) here (counted n (omega arith))
    | inr none ↦ between_cuts n (omega arith) none (counted n (omega arith))
  ]

  pub kept-is : count_places kept places ≡ room * count_places cut places + count_places (is_uncut page cut) places
  kept-is =
      let none : count_places (spans places) places ≡ 0 = count_none (spans places) places (λ i below. and_left _ _ (and_right _ _ (le-ltb places (suc i) (omega arith)))) in
      omega (arith, counted places (omega arith))
