-- A ring at its limit has a victim, since fewer pages are locked or pinned than it has.
use Rattle.std.proofs.Common.{◌≡◌, ℕ, ◌+◌, ◌<◌, ◌≤◌, ◌++◌, Bool, true, false, cond, List, [], ◌∷◌, Option, Some, None, length, take, drop, count_by, nat_lt, not, refl, ap, ◌∙◌, arith}
use Rattle.std.specs.List.{position, position_or_len}
use Rattle.std.proofs.lemmas.Bool.{lt-ltb, le-ltb}
use Rattle.std.proofs.lemmas.List.Sums.{sum_by-append, sum_by-take-drop}
use Rattle.vm_types.specs.Ring.{Held, Ring, choose, empty_at, filled, fixed, from_hand, is_empty_slot, is_filled_slot, is_fixed, is_fixed_slot, is_loose_slot, slot_after, victim_at}
use Rattle.vm_types.specs.declared.ring_choice.Choice.TheVariants.{Victim}
use Rattle.pager_rules.proofs.Basics.{count_cons_no, count_cons_yes}

-- if more slots are filled than are locked or pinned, one is filled and neither
some_loose : (slots : List (Option Held)) → fixed slots < filled slots → position_or_len is_loose_slot slots < length slots
some_loose [] more = absurd (omega (arith, more))
some_loose (None ∷ slots) more =
    let rest = some_loose slots (omega (arith, more, count_cons_no is_fixed_slot None slots refl, count_cons_no is_filled_slot None slots refl)) in
    omega (arith, rest)
some_loose (Some held ∷ slots) more = go (is_fixed held) refl (some_loose slots)
  where
    go : (b : Bool) → is_fixed held ≡ b → (fixed slots < filled slots → position_or_len is_loose_slot slots < length slots) → cond (not (not b)) (1 + position_or_len is_loose_slot slots) 0 < length (Some held ∷ slots)
    go false is rest = omega arith
    go true is rest =
        let below = rest (omega (arith, more, count_cons_yes is_fixed_slot (Some held) slots is, count_cons_yes is_filled_slot (Some held) slots refl)) in
        omega (arith, below)

count_from_hand : (t : Option Held → Bool) (slots : List (Option Held)) (hand : ℕ) → count_by t (drop hand slots ++ take hand slots) ≡ count_by t slots
count_from_hand t slots hand =
    let both = sum_by-append (λ (o : Option Held). cond (t o) 1 0) (drop hand slots) (take hand slots) in
    let parts = sum_by-take-drop (λ (o : Option Held). cond (t o) 1 0) slots hand in
    omega (arith, both, parts)

chosen_at : (ring : Ring) (limit k : ℕ) → nat_lt (filled ring.slots) limit ≡ false → position is_loose_slot (from_hand ring) ≡ Some k → choose ring limit ≡ Victim (slot_after ring k)
chosen_at ring limit k full found =
    ap (λ (b : Bool). cond b (empty_at ring (position is_empty_slot (from_hand ring))) (victim_at ring (position is_loose_slot (from_hand ring)))) full
    ∙ ap (victim_at ring) found

position_is : {X : Type 0} (p : X → Bool) (xs : List X) → position_or_len p xs < length xs → position p xs ≡ Some (position_or_len p xs)
position_is p xs below = ap (λ (b : Bool). cond b (Some (position_or_len p xs)) None) (lt-ltb _ _ below)

not_below : (m n : ℕ) → n ≤ m → nat_lt m n ≡ false
not_below m n most = le-ltb m n most

pub has_victim : (ring : Ring) (limit : ℕ) → limit ≤ filled ring.slots → fixed ring.slots < limit → (slot : ℕ) × (choose ring limit ≡ Victim slot)
has_victim ring limit full few =
    let more : fixed (from_hand ring) < filled (from_hand ring) = omega (arith, full, few, count_from_hand is_fixed_slot ring.slots ring.hand, count_from_hand is_filled_slot ring.slots ring.hand) in
    (slot_after ring (position_or_len is_loose_slot (from_hand ring)), chosen_at ring limit _ (not_below _ _ full) (position_is is_loose_slot (from_hand ring) (some_loose (from_hand ring) more)))
