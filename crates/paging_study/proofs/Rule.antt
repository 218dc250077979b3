-- The rule of the drops keeps room at each place, and its cuts are tight.
use Rattle.std.proofs.Common.{◌≡◌, ◌≢◌, ℕ, suc, zero, ◌+◌, ◌-◌, ◌<◌, ◌≤◌, ◌⊎◌, Bool, true, false, ap, sym, refl, subst, inl, inr, arith, eqb, leb, ◌&&◌, ◌||◌, not}
use Rattle.std.proofs.lemmas.Bool.{cases_lt, cases_eq, cases_Bool, false_from_ne_true, both_ways, eqb-true, eq-eqb, ne_eqb, or_right, and_parts, and_from, and_left, and_right, not-true, not_from_true}
use Rattle.paging_study.specs.Places.{one_if, count_places}
use Rattle.paging_study.specs.Intervals.{begins, is_inside}
use Rattle.paging_study.specs.Least.{is_dropped, is_open, AreDrops}
use Rattle.paging_study.proofs.Counts.{count_none, count_same, count_but_one}
use Rattle.paging_study.proofs.Begins.{any_place-some, any_place-from, begin_once, Inside, inside, inside_from}

-- what passes one test passes one of two others
count-le-sum : (f g h : ℕ → Bool) (n : ℕ) → ((i : ℕ) → i < n → f (suc i) ≡ true → (g (suc i) ≡ true) ⊎ (h (suc i) ≡ true)) → count_places f n ≤ count_places g n + count_places h n
count-le-sum f g h zero either = omega arith
count-le-sum f g h (suc n) either =
    let before : count_places f n ≤ count_places g n + count_places h n = count-le-sum f g h n (λ i below. either i (omega arith)) in
    elim (cases_Bool (f (suc n))) [
      | inr fails ↦ let none : one_if (f (suc n)) ≡ 0 = ap one_if fails in omega arith
      | inl passes ↦
          let one : one_if (f (suc n)) ≡ 1 = ap one_if passes in
          elim (either n (omega arith) passes) [
            | inl first ↦ let one' : one_if (g (suc n)) ≡ 1 = ap one_if first in omega arith
            | inr second ↦ let one' : one_if (h (suc n)) ≡ 1 = ap one_if second in omega arith
          ]
    ]

or_false : (a b : Bool) → (a && not (b || false)) ≡ (a && not b)
or_false a true = refl
or_false a false = refl

module _ (page drop : ℕ → ℕ) (places room : ℕ) (drops : AreDrops page drop places room) where
  -- an interval that was not dropped, by its end
  abbrev pub stays : ℕ → Bool
  stays end = leb 1 (begins page end) && not (is_dropped drop places end)

  -- the interval has the place inside, and is kept there too
  abbrev pub is_left : ℕ → ℕ → Bool
  is_left n end = is_inside page (suc n) end && not (is_dropped drop (suc n) end)

  pub dropped_later : (n m end : ℕ) → n ≤ m → is_dropped drop n end ≡ true → is_dropped drop m end ≡ true
  dropped_later n m end le dropped =
      let found = any_place-some (λ place. eqb (drop place) end) n dropped in
      any_place-from (λ place. eqb (drop place) end) m found.0 (omega (arith, found.1)) found.2

  -- what was not dropped by then was not dropped before
  pub kept_earlier : (n m end : ℕ) → n ≤ m → is_dropped drop m end ≡ false → is_dropped drop n end ≡ false
  kept_earlier n m end le kept = false_from_ne_true _ (λ dropped. both_ways _ kept (dropped_later n m end le dropped))

  -- a place where an interval is dropped
  pub record Drops (n : ℕ) : Type 0 where
    pub full : room < count_places (is_open page drop n) places
    pub there : is_open page drop n (drop (suc n)) ≡ true
    pub inside : Inside page (suc n) (drop (suc n))
    pub new : is_dropped drop n (drop (suc n)) ≡ false
    pub within : drop (suc n) ≤ places

  pub drops_at : (n : ℕ) → n < places → 1 ≤ drop (suc n) → Drops n
  drops_at n below some =
      let full : room < count_places (is_open page drop n) places = elim (cases_lt room (count_places (is_open page drop n) places)) [
        | inl lt ↦ lt
        | inr le ↦ absurd (omega (arith, (drops n below).none le))
      ] in
      let there = (drops n below).open_there full in
      let parts = and_parts _ _ there in
      record { full = full; there = there; inside = inside page (suc n) (drop (suc n)) parts.0; new = not-true _ parts.1; within = (drops n below).exists }

  -- a dropped interval is dropped at a place inside it
  pub record DropsAt (end : ℕ) : Type 0 where
    pub at : ℕ
    pub below : at < places
    pub is : drop (suc at) ≡ end
    pub drops_there : Drops at

  pub dropped_at : (end : ℕ) → 1 ≤ end → is_dropped drop places end ≡ true → DropsAt end
  dropped_at end some dropped =
      let found = any_place-some (λ place. eqb (drop place) end) places dropped in
      let is : drop (suc found.0) ≡ end = eqb-true _ _ found.2 in
      record { at = found.0; below = found.1; is = is; drops_there = drops_at found.0 found.1 (omega arith) }

  -- where none is dropped, what is open is left
  left_none : (n : ℕ) → drop (suc n) ≡ 0 → (i : ℕ) → is_left n (suc i) ≡ is_open page drop n (suc i)
  left_none n none i =
      let other : eqb (drop (suc n)) (suc i) ≡ false = ne_eqb _ _ (λ e. omega arith) in
      rw other (or_false (is_inside page (suc n) (suc i)) (is_dropped drop n (suc i)))

  pub left_other : (n i : ℕ) → suc i ≢ drop (suc n) → is_left n (suc i) ≡ is_open page drop n (suc i)
  left_other n i apart =
      let other : eqb (drop (suc n)) (suc i) ≡ false = ne_eqb _ _ (λ e. apart (sym e)) in
      rw other (or_false (is_inside page (suc n) (suc i)) (is_dropped drop n (suc i)))

  pub left_dropped : (n : ℕ) → is_left n (drop (suc n)) ≡ false
  left_dropped n = and_right _ _ (not_from_true _ (or_right (is_dropped drop n (drop (suc n))) _ (eq-eqb _ _ refl)))

  left_count_at : (n t : ℕ) → suc t ≡ drop (suc n) → t < places → Drops n → count_places (is_left n) places + 1 ≡ count_places (is_open page drop n) places
  left_count_at n t is below d =
      let gone : is_left n (suc t) ≡ false = subst (λ (end : ℕ). is_left n end ≡ false) (sym is) (left_dropped n) in
      let was : is_open page drop n (suc t) ≡ true = subst (λ (end : ℕ). is_open page drop n end ≡ true) (sym is) d.there in
      let gone' : one_if (is_left n (suc t)) ≡ 0 = ap one_if gone in
      let was' : one_if (is_open page drop n (suc t)) ≡ 1 = ap one_if was in
      let change : count_places (is_left n) places + one_if (is_open page drop n (suc t)) ≡ count_places (is_open page drop n) places + one_if (is_left n (suc t)) =
      count_but_one (is_left n) (is_open page drop n) places t below (λ i b other. left_other n i (λ e. other (omega arith))) in
      omega arith

  -- one fewer is left than was open, where one is dropped
  pub left_count : (n : ℕ) → n < places → Drops n → count_places (is_left n) places + 1 ≡ count_places (is_open page drop n) places
  left_count n below d = left_count_at n (drop (suc n) - 1) (omega (arith, d.inside.past)) (omega (arith, d.within, d.inside.past)) d

  -- what is open at the next place was left, or begins here
  open_next : (n end : ℕ) → is_open page drop (suc n) end ≡ true → (is_left n end ≡ true) ⊎ (eqb (begins page end) (suc n) ≡ true)
  open_next n end is =
      let parts = and_parts _ _ is in
      let now = inside page (suc (suc n)) end parts.0 in
      elim (cases_eq (begins page end) (suc n)) [
        | inl here ↦ inr (eq-eqb _ _ here)
        | inr other ↦
            let first : begins page end < suc n = elim (cases_lt (begins page end) (suc n)) [ inl lt ↦ lt | inr le ↦ absurd (other (omega (arith, now.first))) ] in
            inl (and_from _ _ (inside_from page (suc n) end now.interval first (omega (arith, now.past))) parts.1)
      ]

  left_bound_from : (n : ℕ) → n < places → count_places (is_open page drop n) places ≤ room + 1 → count_places (is_left n) places ≤ room
  left_bound_from n below few = elim (cases_lt 0 (drop (suc n))) [
    | inl some ↦ omega (arith, left_count n below (drops_at n below some))
    | inr none ↦
        let none' : drop (suc n) ≡ 0 = omega arith in
        let same : count_places (is_left n) places ≡ count_places (is_open page drop n) places = count_same (is_left n) (is_open page drop n) places (λ i b. left_none n none' i) in
        elim (cases_lt room (count_places (is_open page drop n) places)) [
          | inr le ↦ omega arith
          | inl full ↦
              let parts = and_parts (is_inside page (suc n) (drop (suc n))) (not (is_dropped drop n (drop (suc n)))) ((drops n below).open_there full) in
              absurd (omega (arith, (inside page (suc n) (drop (suc n)) parts.0).past))
        ]
  ]

  open_bound : (n : ℕ) → n < places → count_places (is_open page drop n) places ≤ room + 1
  open_bound zero below =
      let none : count_places (is_open page drop 0) places ≡ 0 = count_none (is_open page drop 0) places (λ i b. and_left _ _ (false_from_ne_true _ (λ is.
      let parts = inside page 1 (suc i) is in
      omega (arith, parts.interval, parts.first)))) in
      omega arith
  open_bound (suc n) below =
      let left : count_places (is_left n) places ≤ room = left_bound_from n (omega arith) (open_bound n (omega arith)) in
      let begun : count_places (λ end. eqb (begins page end) (suc n)) places ≤ 1 = begin_once page (suc n) places (omega arith) in
      omega (arith, count-le-sum (is_open page drop (suc n)) (is_left n) (λ end. eqb (begins page end) (suc n)) places (λ i b is. open_next n (suc i) is))

  pub left_bound : (n : ℕ) → n < places → count_places (is_left n) places ≤ room
  left_bound n below = left_bound_from n below (open_bound n below)
