-- The cuts of the rule are tight.
use Rattle.std.proofs.Common.{◌≡◌, ℕ, suc, zero, ◌-◌, ◌<◌, ◌≤◌, ◌⊎◌, Bool, true, false, sym, ◌∙◌, refl, subst, inl, inr, arith, eqb, leb, ltb, ◌&&◌, not}
use Rattle.std.proofs.lemmas.Bool.{cases_lt, cases_Bool, false_from_ne_true, both_ways, eq-eqb, and_parts, and_from, and_left, and_right, and_cases, ltb-true, leb-true, lt-ltb, le-leb, not-true, not-false, not_from_true, not_from_false}
use Rattle.paging_study.specs.Places.{count_places, last_place, any_place}
use Rattle.paging_study.specs.Intervals.{begins, is_inside}
use Rattle.paging_study.specs.Least.{is_dropped, is_open, AreDrops, AreCuts}
use Rattle.paging_study.proofs.Counts.{count_same}
use Rattle.paging_study.proofs.Begins.{last_place-ge, any_place-some, any_place-from, Inside, inside, inside_from}
use Rattle.paging_study.proofs.Rule.{stays, is_left, drops_at, dropped_at, left_bound, kept_earlier, dropped_later, left_count}
use Rattle.paging_study.proofs.Exact.{IsTight}

module _ (page drop : ℕ → ℕ) (places room : ℕ) (drops : AreDrops page drop places room) (cut : ℕ → Bool) (cuts : AreCuts drop places cut) (only : (c : ℕ) → cut c ≡ true → (1 ≤ c) × (c ≤ places)) where
  -- a later cut before the end of the interval that is dropped at the place after n
  abbrev between : ℕ → ℕ → Bool
  between n later = (cut later && ltb (suc n) later) && ltb later (drop (suc n))

  -- at a cut an interval is dropped
  cut_drops : (n : ℕ) → n < places → cut (suc n) ≡ true → 1 ≤ drop (suc n)
  cut_drops n below here = leb-true _ _ (and_parts _ _ (sym (cuts n below) ∙ here)).0

  -- and no later cut is before its end
  cut_last : (n later : ℕ) → n < places → cut (suc n) ≡ true → cut later ≡ true → suc n < later → drop (suc n) ≤ later
  cut_last n later below here there after = elim (cases_lt later (drop (suc n))) [
    | inr le ↦ le
    | inl before ↦
        let none : any_place (between n) places ≡ false = not-true (any_place (between n) places) (and_parts (leb 1 (drop (suc n))) (not (any_place (between n) places)) (sym (cuts n below) ∙ here)).1 in
        let passes : between n later ≡ true = and_from _ _ (and_from _ _ there (lt-ltb _ _ after)) (lt-ltb _ _ before) in
        let range = only later there in
        let is : suc (later - 1) ≡ later = omega (arith, range.0) in
        let passes' : between n (suc (later - 1)) ≡ true = subst (λ (c : ℕ). between n c ≡ true) (sym is) passes in
        absurd (both_ways _ none (any_place-from (between n) places (later - 1) (omega (arith, range.0, range.1)) passes'))
  ]

  -- where an interval is dropped, the place or a later one inside the interval is a cut
  cut_there : (n : ℕ) → n < places → 1 ≤ drop (suc n) → (i : ℕ) × (n ≤ i) × (i < places) × (cut (suc i) ≡ true) × ((suc i < drop (suc n)) ⊎ (i ≡ n))
  cut_there n below some = elim (cases_Bool (cut (suc n))) [
    | inl here ↦ (n, omega arith, below, here, inr refl)
    | inr none ↦ elim (cases_Bool (any_place (between n) places)) [
      | inl found ↦
          let at = any_place-some (between n) places found in
          let parts = and_parts _ _ at.2 in
          let parts' = and_parts _ _ parts.0 in
          (at.0, omega (arith, ltb-true _ _ parts'.1), at.1, parts'.0, inl (ltb-true _ _ parts.1))
      | inr nowhere ↦ absurd (both_ways _ none (cuts n below ∙ and_from _ _ (le-leb _ _ some) (not_from_false _ nowhere)))
    ]
  ]

  covered : (n : ℕ) → n < places → 1 ≤ begins page (suc n) → stays page drop places room drops (suc n) ≡ false → begins page (suc n) < last_place cut n
  covered n below some gone =
      let dropped : is_dropped drop places (suc n) ≡ true = elim (and_cases _ _ gone) [
        | inl none ↦ absurd (both_ways _ none (le-leb _ _ some))
        | inr not_kept ↦ not-false _ not_kept
      ] in
      let d = dropped_at page drop places room drops (suc n) (omega arith) dropped in
      let at_d = d.drops_there in
      let first : begins page (suc n) < suc d.at = subst (λ (end : ℕ). begins page end < suc d.at) d.is at_d.inside.first in
      let c = cut_there d.at d.below (omega (arith, d.is)) in
      let before : c.0 < n = elim c.4 [
        | inl inside_it ↦ omega (arith, d.is, inside_it)
        | inr same ↦ omega (arith, d.is, same, at_d.inside.past)
      ] in
      omega (arith, first, c.1, last_place-ge cut n c.0 before c.3)

  -- a kept interval with a cut inside was there when an interval was dropped at the cut
  open_at : (j n : ℕ) → j < places → stays page drop places room drops (suc n) ≡ true → begins page (suc n) < suc j → suc j < suc n → is_open page drop j (suc n) ≡ true
  open_at j n below kept first past =
      let parts = and_parts (leb 1 (begins page (suc n))) (not (is_dropped drop places (suc n))) kept in
      let alive : is_dropped drop j (suc n) ≡ false = kept_earlier page drop places room drops j places (suc n) (omega arith) (not-true _ parts.1) in
      and_from _ _ (inside_from page (suc j) (suc n) (leb-true _ _ parts.0) first past) (not_from_false _ alive)

  one_cut_at : (j d n : ℕ) → n < places → cut (suc j) ≡ true → cut d ≡ true → begins page (suc n) < suc j → suc j < d → d < suc n → stays page drop places room drops (suc n) ≡ true → ⊥
  one_cut_at j d n below here there first after before kept =
      let j_below : j < places = omega arith in
      let at_j = drops_at page drop places room drops j j_below (cut_drops j j_below here) in
      let last : suc n ≤ drop (suc j) = (drops j j_below).last n below (open_at j n j_below kept first (omega arith)) at_j.full in
      omega (arith, last, cut_last j d j_below here there after)

  one_cut : (c d n : ℕ) → n < places → cut c ≡ true → cut d ≡ true → begins page (suc n) < c → c < d → d < suc n → stays page drop places room drops (suc n) ≡ true → ⊥
  one_cut zero d n below here there first after before kept = omega arith
  one_cut (suc j) d n below here there first after before kept = one_cut_at j d n below here there first after before kept

  -- what is left at a cut is dropped nowhere later
  never_dropped : (n i : ℕ) → n < places → i < places → cut (suc n) ≡ true → Inside page (suc n) (suc i) → is_dropped drop (suc n) (suc i) ≡ false → is_dropped drop places (suc i) ≡ false
  never_dropped n i below i_below here in_it alive = false_from_ne_true _ (λ dropped.
      let d = dropped_at page drop places room drops (suc i) (omega arith) dropped in
      let at_d = d.drops_there in
      let at_n = drops_at page drop places room drops n below (cut_drops n below here) in
      let later : n < d.at = elim (cases_lt n d.at) [
        | inl lt ↦ lt
        | inr le ↦ absurd (both_ways _ alive (any_place-from (λ place. eqb (drop place) (suc i)) (suc n) d.at (omega arith) (eq-eqb _ _ d.is)))
      ] in
      let earlier : is_dropped drop n (suc i) ≡ false = kept_earlier page drop places room drops n (suc n) (suc i) (omega arith) alive in
      let is_there : is_open page drop n (suc i) ≡ true = and_from _ _ (inside_from page (suc n) (suc i) in_it.interval in_it.first in_it.past) (not_from_false _ earlier) in
      let last : suc i ≤ drop (suc n) = (drops n below).last i i_below is_there at_n.full in
      let past : suc d.at < suc i = subst (λ (end : ℕ). suc d.at < end) d.is at_d.inside.past in
      let c = cut_there d.at d.below (omega (arith, d.is)) in
      let before : suc c.0 < suc i = elim c.4 [
        | inl inside_it ↦ omega (arith, d.is, inside_it)
        | inr same ↦ omega (arith, same, past)
      ] in
      omega (arith, cut_last n (suc c.0) below here c.3 (omega (arith, c.1)), last))

  left_stays : (n i : ℕ) → n < places → i < places → cut (suc n) ≡ true → (stays page drop places room drops (suc i) && is_inside page (suc n) (suc i)) ≡ is_left page drop places room drops n (suc i)
  left_stays n i below i_below here = elim (cases_Bool (is_inside page (suc n) (suc i))) [
    | inr outside ↦ and_right _ _ outside ∙ sym (and_left _ _ outside)
    | inl in_it ↦
        let parts = inside page (suc n) (suc i) in_it in
        elim (cases_Bool (is_dropped drop (suc n) (suc i))) [
          | inl gone ↦
              let gone' : is_dropped drop places (suc i) ≡ true = dropped_later page drop places room drops (suc n) places (suc i) (omega arith) gone in
              and_left _ _ (and_right _ _ (not_from_true _ gone')) ∙ sym (and_right _ _ (not_from_true _ gone))
          | inr alive ↦
              let alive' : is_dropped drop places (suc i) ≡ false = never_dropped n i below i_below here parts alive in
              and_from _ _ (and_from _ _ (le-leb _ _ parts.interval) (not_from_false _ alive')) in_it ∙ sym (and_from _ _ in_it (not_from_false _ alive))
        ]
  ]

  full : (n : ℕ) → n < places → cut (suc n) ≡ true → count_places (λ end. stays page drop places room drops end && is_inside page (suc n) end) places ≡ room
  full n below here =
      let at_n = drops_at page drop places room drops n below (cut_drops n below here) in
      let same : count_places (λ end. stays page drop places room drops end && is_inside page (suc n) end) places ≡ count_places (is_left page drop places room drops n) places =
      count_same (λ end. stays page drop places room drops end && is_inside page (suc n) end) (is_left page drop places room drops n) places (λ i i_below. left_stays n i below i_below here) in
      omega (arith, same, left_count page drop places room drops n below at_n, left_bound page drop places room drops n below, at_n.full)

  pub tight : IsTight page (stays page drop places room drops) cut places room
  tight = record {
    interval = λ n below kept. leb-true _ _ (and_parts _ _ kept).0;
    covered = covered;
    one_cut = one_cut;
    full = full;
  }
