-- The slot that a ring below its limit offers, and the ring with a page put there.
use Rattle.std.proofs.Common.{◌≡◌, ℕ, ◌+◌, ◌-◌, ◌%◌, ◌<◌, ◌≤◌, Bool, true, false, cond, List, [], ◌&&◌, ◌∷◌, ◌++◌, Option, Some, None, length, take, drop, nat_eq, nat_lt, count_by, position, slice_get, slice_index_or, refl, sym, ap, ◌∙◌, subst, inl, inr, arith, length-append, length-drop, length-set, length-take-le, get_or-drop, get_or-take, mod-eq_of_lt, mod-lt, zero-add}
use Rattle.std.specs.List.{position_or_len}
use Rattle.std.proofs.Math.Nat.{mod-eq-sub-mod}
use Rattle.std.proofs.lemmas.Bool.{cases_lt, lt-ltb, false≢true}
use Rattle.std.proofs.lemmas.List.{get_or_append_left, get_or-append_right}
use Rattle.std.proofs.lemmas.List.Sums.{sum_by-append, sum_by-take-drop, passes_at_first}
use Rattle.std.proofs.lemmas.Option.{slice_get-get_or}
use Rattle.vm_types.specs.Ring.{Ring, Held, choose, empty_at, victim_at, slot_after, from_hand, filled, fixed, fresh_slot, is_empty_slot, is_filled_slot, is_fixed_slot, is_loose_slot, is_pinned_slot, pinned}
use Rattle.vm_types.specs.declared.ring_choice.Choice.{Choice}
use Rattle.vm_types.specs.declared.ring_choice.Choice.TheVariants.{Empty}
use Rattle.pager_model.specs.Bytes.{before}
use Rattle.pager_model.specs.Lookups.{passes, has_pin, has_vpn, is, pins_with}
use Rattle.pager_model.specs.Ring.{placed, placed_at}
use Rattle.pager_rules.proofs.Basics.{count_cons_yes, count_set}

-- ---- the slots from the hand on
-- a place after the hand is a slot, before the end of the list or past it
place_is_slot : (slots : List (Option Held)) (hand k : ℕ) (d : Option Held) → hand < length slots → k < length slots
    → slice_index_or (drop hand slots ++ take hand slots) k d ≡ slice_index_or slots ((hand + k) % length slots) d
place_is_slot slots hand k d inside within =
    let tail_length = length-drop hand slots in
    elim (cases_lt (hand + k) (length slots)) [
      | inl before ↦ get_or_append_left _ _ d k (omega arith) ∙ (get_or-drop hand slots k d ∙ ap (λ (j : ℕ). slice_index_or slots j d) (sym (mod-eq_of_lt before)))
      | inr past ↦ get_or-append_right _ _ (length slots - hand) k d (omega arith) (omega arith)
          ∙ (get_or-take hand slots _ d (omega arith) ∙ ap (λ (j : ℕ). slice_index_or slots j d) (wraps past))
    ]
  where
    wraps : length slots ≤ hand + k → k - (length slots - hand) ≡ (hand + k) % length slots
    wraps past =
        let wrapped : (hand + k) % length slots ≡ hand + k - length slots = mod-eq-sub-mod past ∙ mod-eq_of_lt (omega arith) in
        omega arith

length_from_hand : (slots : List (Option Held)) (hand : ℕ) → hand < length slots → length (drop hand slots ++ take hand slots) ≡ length slots
length_from_hand slots hand inside =
    let whole = length-append (drop hand slots) (take hand slots) in
    let tail_length = length-drop hand slots in
    let front_length = length-take-le hand slots (omega arith) in
    omega arith

filled_from_hand : (slots : List (Option Held)) (hand : ℕ) → filled (drop hand slots ++ take hand slots) ≡ filled slots
filled_from_hand slots hand =
    let both = sum_by-append (λ (o : Option Held). cond (is_filled_slot o) 1 0) (drop hand slots) (take hand slots) in
    let parts = sum_by-take-drop (λ (o : Option Held). cond (is_filled_slot o) 1 0) slots hand in
    omega arith

-- where not each slot is filled, one is empty
some_empty : (slots : List (Option Held)) → filled slots < length slots → position_or_len is_empty_slot slots < length slots
some_empty [] less = less
some_empty (None ∷ slots) less = omega arith
some_empty (Some held ∷ slots) less =
    let counted = count_cons_yes is_filled_slot (Some held) slots refl in
    let rest = some_empty slots (omega arith) in
    omega arith

empty_is : (o : Option Held) → is_empty_slot o ≡ true → o ≡ None
empty_is None e = refl
empty_is (Some held) e = absurd (false≢true e)

-- ---- the offered slot is an empty one of the ring
pub record IsOffered (ring : Ring) (limit slot : ℕ) : Type 0 where
  pub chosen : choose ring limit ≡ Empty slot
  pub within : slot < length ring.slots
  pub empty : slice_get ring.slots slot ≡ Some None

choose_below : (ring : Ring) (limit k : ℕ) → nat_lt (filled ring.slots) limit ≡ true → position is_empty_slot (from_hand ring) ≡ Some k → choose ring limit ≡ Empty (slot_after ring k)
choose_below ring limit k below found =
    ap (λ (b : Bool). cond b (empty_at ring (position is_empty_slot (from_hand ring))) (victim_at ring (position is_loose_slot (from_hand ring)))) below
    ∙ ap (empty_at ring) found

position_is : {X : Type 0} (p : X → Bool) (xs : List X) → position_or_len p xs < length xs → position p xs ≡ Some (position_or_len p xs)
position_is p xs below = ap (λ (b : Bool). cond b (Some (position_or_len p xs)) None) (lt-ltb _ _ below)

-- the place k after the hand is the first that is empty
offered_at : (ring : Ring) (limit k : ℕ) → filled ring.slots < limit → ring.hand < length ring.slots → k < length ring.slots
    → position is_empty_slot (from_hand ring) ≡ Some k → is_empty_slot (slice_index_or (from_hand ring) k None) ≡ true → IsOffered ring limit (slot_after ring k)
offered_at ring limit k below inside within found passes =
    let place = place_is_slot ring.slots ring.hand k None inside within in
    let inside_ring : slot_after ring k < length ring.slots = mod-lt (ring.hand + k) (omega arith) in
    record {
      chosen = choose_below ring limit k (lt-ltb _ _ below) found;
      within = inside_ring;
      empty = slice_get-get_or ring.slots (slot_after ring k) None inside_ring ∙ ap Some (sym place ∙ empty_is _ passes);
    }

pub offered : (ring : Ring) (limit : ℕ) → filled ring.slots < limit → limit ≤ length ring.slots → ring.hand < length ring.slots → (slot : ℕ) × IsOffered ring limit slot
offered ring limit below most inside = (slot_after ring k, offered_at ring limit k below inside (from_length length_is first) (position_is is_empty_slot (from_hand ring) first) (passes_at_first is_empty_slot (from_hand ring) None first))
  where
    k : ℕ
    k = position_or_len is_empty_slot (from_hand ring)

    length_is : length (from_hand ring) ≡ length ring.slots
    length_is = length_from_hand ring.slots ring.hand inside

    first : position_or_len is_empty_slot (from_hand ring) < length (from_hand ring)
    first = some_empty (from_hand ring) (omega (arith, length_is, filled_from_hand ring.slots ring.hand))

    from_length : {i m n : ℕ} → m ≡ n → i < m → i < n
    from_length same less = omega arith

-- ---- the ring with the page put there
pub record IsPlaced (old new : Ring) (v : ℕ) : Type 0 where
  pub vpns : (w : ℕ) → count_by (has_vpn w) new.slots ≡ cond (nat_eq v w) 1 0 + count_by (has_vpn w) old.slots
  pub pins : (w : ℕ) → pins_with new w ≡ pins_with old w
  pub locks : fixed new.slots ≡ fixed old.slots
  pub pinned : pinned new.slots ≡ pinned old.slots
  pub slots : length new.slots ≡ length old.slots
  pub hand : new.hand < length old.slots

no_pin : (b : Bool) → (b && false) ≡ false
no_pin true = refl
no_pin false = refl

placed_there : (ring : Ring) (limit slot v : ℕ) → IsOffered ring limit slot → IsPlaced ring (placed_at (Empty slot) ring v) v
placed_there ring limit slot v is =
    record {
      vpns = λ w. count_set (has_vpn w) ring.slots slot None (fresh_slot v) is.empty refl;
      pins = λ w. count_set (has_pin w) ring.slots slot None (fresh_slot v) is.empty refl ∙ ap (λ (b : Bool). cond b 1 0 + pins_with ring w) (no_pin (nat_eq v w)) ∙ zero-add (pins_with ring w);
      locks = count_set is_fixed_slot ring.slots slot None (fresh_slot v) is.empty refl ∙ zero-add (fixed ring.slots);
      pinned = count_set is_pinned_slot ring.slots slot None (fresh_slot v) is.empty refl ∙ zero-add (pinned ring.slots);
      slots = length-set ring.slots slot (fresh_slot v);
      hand = mod-lt (slot + 1) (omega (arith, is.within));
    }

-- below its limit a ring takes the page
pub placed_below_limit : (ring : Ring) (limit v : ℕ) → filled ring.slots < limit → limit ≤ length ring.slots → ring.hand < length ring.slots → IsPlaced ring (placed ring limit v) v
placed_below_limit ring limit v below most inside =
    let slot = offered ring limit below most inside in
    subst (λ (c : Choice). IsPlaced ring (placed_at c ring v) v) (sym slot.1.chosen) (placed_there ring limit slot.0 v slot.1)
