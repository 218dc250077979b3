-- What the choice of a ring says of it.
use Rattle.std.proofs.Common.{◌≡◌, ℕ, ◌<◌, ◌≤◌, true, false, List, [], ◌∷◌, Option, Some, None, length, take, drop, sym, ap, subst, refl, cond, arith}
use Rattle.std.specs.List.{position, position_or_len}
use Rattle.std.specs.Option.{is_some, IsSome}
use Rattle.std.proofs.lemmas.Bool.{cond_below, not-true, not-false, both_ways}
use Rattle.std.proofs.lemmas.List.{get_or_default}
use Rattle.std.proofs.lemmas.List.Sums.{sum_by-cons, sum_by-append, sum_by-take-drop}
use Rattle.vm_types.specs.Ring.{Held, Ring, filled, from_hand, slot_after, is_empty_slot, is_filled_slot, is_fixed, is_loose_slot}
use Rattle.working_set.specs.Slots.{slot_at}
use Rattle.working_set.specs.Offers.{IsEmptyOrFixed, IsLoose, OffersEmpty, OffersVictim, OffersNone}
use Rattle.working_set.proofs.FromHand.{length-from_hand, slot_after-lt-length, first_passes, before_fails, all_fail}

-- what the tests of a slot say
is_empty_slot-true : (slot : Option Held) → is_empty_slot slot ≡ true → slot ≡ None
is_empty_slot-true None h = refl
is_empty_slot-true (Some held) h = cc

is_empty_slot-false : (slot : Option Held) → is_empty_slot slot ≡ false → IsSome slot
is_empty_slot-false None h = cc
is_empty_slot-false (Some held) h = refl

is_loose_slot-true : (slot : Option Held) → is_loose_slot slot ≡ true → IsLoose slot
is_loose_slot-true None h = cc
is_loose_slot-true (Some held) h = not-true (is_fixed held) h

is_loose_slot-false : (slot : Option Held) → is_loose_slot slot ≡ false → IsEmptyOrFixed slot
is_loose_slot-false None h = tt
is_loose_slot-false (Some held) h = not-false (is_fixed held) h

-- each slot before the first empty one is filled
position_or_len-le-filled : (slots : List (Option Held)) → position_or_len is_empty_slot slots ≤ filled slots
position_or_len-le-filled [] = omega arith
position_or_len-le-filled (None ∷ slots) = omega arith
position_or_len-le-filled (Some held ∷ slots) =
    omega (arith, position_or_len-le-filled slots, sum_by-cons (λ slot. cond (is_filled_slot slot) 1 0) (Some held) slots)

filled-from_hand : (ring : Ring) → filled (from_hand ring) ≡ filled ring.slots
filled-from_hand ring =
    let count : Option Held → ℕ = λ slot. cond (is_filled_slot slot) 1 0 in
    omega (arith, sum_by-append count (drop ring.hand ring.slots) (take ring.hand ring.slots), sum_by-take-drop count ring.slots ring.hand)

module _ (ring : Ring) (on_slot : ring.hand < length ring.slots) where
  -- where fewer slots are filled than there are, the hand comes to an empty one
  pub empty_exists : filled ring.slots < length ring.slots → IsSome (position is_empty_slot (from_hand ring))
  empty_exists fewer =
      let first = position_or_len is_empty_slot (from_hand ring) in
      let within : first < length (from_hand ring) =
      omega (arith, position_or_len-le-filled (from_hand ring), filled-from_hand ring, length-from_hand ring on_slot) in
      ap is_some (sym (cond_below first (length (from_hand ring)) (Some first) None within))

  pub offers_empty : (limit places : ℕ) → filled ring.slots < limit → position is_empty_slot (from_hand ring) ≡ Some places → OffersEmpty ring limit (slot_after ring places)
  offers_empty limit places below first = record {
    below = below;
    empty = record {
      exists = slot_after-lt-length ring on_slot is_empty_slot places first;
      empty = is_empty_slot-true _ (first_passes ring on_slot is_empty_slot places first);
    };
    before = λ k within before. is_empty_slot-false _ (before_fails ring on_slot is_empty_slot places first k within before);
  }

  pub offers_victim : (limit places : ℕ) → limit ≤ filled ring.slots → position is_loose_slot (from_hand ring) ≡ Some places → OffersVictim ring limit (slot_after ring places)
  offers_victim limit places full first = record {
    full = full;
    exists = slot_after-lt-length ring on_slot is_loose_slot places first;
    loose = is_loose_slot-true _ (first_passes ring on_slot is_loose_slot places first);
    before = λ k within before. is_loose_slot-false _ (before_fails ring on_slot is_loose_slot places first k within before);
  }

  pub offers_none : (limit : ℕ) → limit ≤ filled ring.slots → position is_loose_slot (from_hand ring) ≡ None → OffersNone ring limit
  offers_none limit full none = record {
    full = full;
    fixed = λ k d within. subst IsEmptyOrFixed (get_or_default ring.slots k None d within) (is_loose_slot-false _ (all_fail ring on_slot is_loose_slot none k within));
  }

-- a page that is not locked is no locked one
not_both : (slot : Option Held) → IsLoose slot → IsEmptyOrFixed slot → ⊥
not_both None loose _ = loose
not_both (Some held) loose fixed = both_ways (is_fixed held) loose fixed

-- where there is a slot to replace, not every page is locked
pub victim_refutes_none : (ring : Ring) (limit slot : ℕ) → OffersVictim ring limit slot → OffersNone ring limit → ⊥
victim_refutes_none ring limit slot offered none =
    not_both (slot_at ring slot) offered.loose (none.fixed slot None offered.exists)
