-- The slots in the order in which the hand passes them.
use Rattle.std.proofs.Common.{◌≡◌, ℕ, ◌+◌, ◌-◌, ◌%◌, ◌<◌, ◌≤◌, ◌⊎◌, Bool, true, false, List, Option, Some, None, length, get_or, ◌∷◌, ◌++◌, take, drop, sym, subst, ap, ◌∙◌, inl, inr, mod-eq_of_lt, arith, length-append, length-drop, length-take-le, get_or-drop, get_or-take}
use native.Mathlib.Nat.{mod-eq-sub-mod}
use Rattle.std.proofs.lemmas.List.{drop_more, get_or_append_left, get_or-append_right}
use Rattle.std.proofs.lemmas.List.Quantifiers.{position-Some}
use Rattle.std.proofs.lemmas.List.Sums.{fails_before_first}
use Rattle.std.proofs.lemmas.Bool.{cases_lt, cond_below}
use Rattle.std.proofs.lemmas.Option.{none-some}
use Rattle.std.specs.List.{position, position_or_len}
use Rattle.vm_types.specs.Ring.{Held, Ring, from_hand, slot_after}
use Rattle.working_set.specs.Slots.{slot_at}
use Rattle.working_set.specs.Offers.{places_to}

-- an item that passes is the first one
head_first : {X : Type 0} (p : X → Bool) (x : X) (xs : List X) → p x ≡ true → position p (x ∷ xs) ≡ Some 0
head_first p x xs passes = rw passes (sym (cond_below 0 (length (x ∷ xs)) (Some 0) None (omega arith)))

pub hand_first : {X : Type 0} (p : X → Bool) (xs : List X) (hand : ℕ) (d : X) → hand < length xs → p (get_or xs hand d) ≡ true → Some 0 ≡ position p (drop hand xs ++ take hand xs)
hand_first p xs hand d within passes =
    subst (λ ys. Some 0 ≡ position p (ys ++ take hand xs)) (sym (drop_more xs hand d within)) (sym (head_first p (get_or xs hand d) (drop (hand + 1) xs ++ take hand xs) passes))

-- a number below twice n wraps once at most
wraps_once : (n j : ℕ) → j < n + n → ((j < n) × (j % n ≡ j)) ⊎ ((n ≤ j) × (j % n ≡ j - n))
wraps_once n j below = elim (cases_lt j n) [
  | inl low ↦ inl (low, mod-eq_of_lt low)
  | inr high ↦ inr (high, mod-eq-sub-mod high ∙ mod-eq_of_lt (omega arith))
]

-- going on from h by some places below n, and how many places it was
module _ (n h j : ℕ) (h_below : h < n) (j_below : j < n) where
  round-lt : (h + j) % n < n
  round-lt = elim (wraps_once n (h + j) (omega arith)) [
    | inl low ↦ omega arith
    | inr high ↦ omega arith
  ]

  back_from_round : ((h + j) % n + n - h) % n ≡ j
  back_from_round = elim (wraps_once n (h + j) (omega arith)) [
    | inl low ↦ elim (wraps_once n ((h + j) % n + n - h) (omega arith)) [
      | inl low' ↦ omega arith
      | inr high' ↦ omega arith
    ]
    | inr high ↦ elim (wraps_once n ((h + j) % n + n - h) (omega arith)) [
      | inl low' ↦ omega arith
      | inr high' ↦ omega arith
    ]
  ]

  places-lt : (j + n - h) % n < n
  places-lt = elim (wraps_once n (j + n - h) (omega arith)) [
    | inl low ↦ omega arith
    | inr high ↦ omega arith
  ]

  round_to : (h + (j + n - h) % n) % n ≡ j
  round_to = elim (wraps_once n (j + n - h) (omega arith)) [
    | inl low ↦ elim (wraps_once n (h + (j + n - h) % n) (omega arith)) [
      | inl low' ↦ omega arith
      | inr high' ↦ omega arith
    ]
    | inr high ↦ elim (wraps_once n (h + (j + n - h) % n) (omega arith)) [
      | inl low' ↦ omega arith
      | inr high' ↦ omega arith
    ]
  ]

-- where none passes, the first place is past the end
pub position-None : {X : Type 0} (p : X → Bool) (xs : List X) → position p xs ≡ None → length xs ≤ position_or_len p xs
position-None p xs none = elim (cases_lt (position_or_len p xs) (length xs)) [
  | inl below ↦ absurd (none-some (position_or_len p xs) (sym none ∙ sym (cond_below _ _ (Some (position_or_len p xs)) None below)))
  | inr past ↦ past
]

module _ (ring : Ring) (on_slot : ring.hand < length ring.slots) where
  pub length-from_hand : length (from_hand ring) ≡ length ring.slots
  length-from_hand =
      omega (arith, length-append (drop ring.hand ring.slots) (take ring.hand ring.slots), length-drop ring.hand ring.slots, length-take-le ring.hand ring.slots (omega arith))

  -- the slot so many places after the hand
  get_or-from_hand : (j : ℕ) → j < length ring.slots → get_or (from_hand ring) j None ≡ slot_at ring (slot_after ring j)
  get_or-from_hand j below = elim (wraps_once (length ring.slots) (ring.hand + j) (omega arith)) [
    | inl low ↦
        get_or_append_left (drop ring.hand ring.slots) (take ring.hand ring.slots) None j (omega (arith, length-drop ring.hand ring.slots))
        ∙ get_or-drop ring.hand ring.slots j None
        ∙ ap (slot_at ring) (sym low.1)
    | inr high ↦
        get_or-append_right (drop ring.hand ring.slots) (take ring.hand ring.slots) (length ring.slots - ring.hand) j None (length-drop ring.hand ring.slots) (omega arith)
        ∙ get_or-take ring.hand ring.slots (j - (length ring.slots - ring.hand)) None (omega arith)
        ∙ ap (slot_at ring) (omega arith)
  ]

  -- each slot is its number of places after the hand
  slot_at-from_hand : (k : ℕ) → k < length ring.slots → slot_at ring k ≡ get_or (from_hand ring) (places_to ring k) None
  slot_at-from_hand k below =
      ap (slot_at ring) (sym (round_to (length ring.slots) ring.hand k on_slot below))
      ∙ sym (get_or-from_hand (places_to ring k) (places-lt (length ring.slots) ring.hand k on_slot below))

  module _ (p : Option Held → Bool) where
    -- the first slot from the hand on that passes
    module _ (j : ℕ) (first : position p (from_hand ring) ≡ Some j) where
      pub places-lt-length : j < length ring.slots
      places-lt-length = omega (arith, (position-Some p (from_hand ring) j None first).0, length-from_hand)

      pub slot_after-lt-length : slot_after ring j < length ring.slots
      slot_after-lt-length = round-lt (length ring.slots) ring.hand j on_slot places-lt-length

      pub first_passes : p (slot_at ring (slot_after ring j)) ≡ true
      first_passes =
          ap p (sym (get_or-from_hand j places-lt-length)) ∙ (position-Some p (from_hand ring) j None first).1

      pub before_fails : (k : ℕ) → k < length ring.slots → places_to ring k < places_to ring (slot_after ring j) → p (slot_at ring k) ≡ false
      before_fails k below before =
          let back = back_from_round (length ring.slots) ring.hand j on_slot places-lt-length in
          ap p (slot_at-from_hand k below) ∙ (position-Some p (from_hand ring) j None first).2 (places_to ring k) (omega arith)

    -- where none passes
    pub all_fail : position p (from_hand ring) ≡ None → (k : ℕ) → k < length ring.slots → p (slot_at ring k) ≡ false
    all_fail none k below =
        let past = position-None p (from_hand ring) none in
        let places = places-lt (length ring.slots) ring.hand k on_slot below in
        ap p (slot_at-from_hand k below) ∙ fails_before_first p (from_hand ring) (places_to ring k) None (omega (arith, past, places, length-from_hand))
