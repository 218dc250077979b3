-- What a ring offers at any limit, by what it offers at one that is within its slots.
use Rattle.std.proofs.Common.{◌≡◌, ℕ, ◌+◌, ◌<◌, ◌≤◌, ◌⊎◌, Bool, true, false, cond, Option, Some, None, length, nat_lt, position, refl, sym, ap, ◌∙◌, inl, inr, arith}
use Rattle.std.proofs.lemmas.Bool.{cases_lt, le-ltb, lt-ltb}
use Rattle.std.proofs.lemmas.List.Sums.{count_by-le-length}
use Rattle.vm_types.specs.Ring.{Ring, choose, empty_at, filled, from_hand, is_empty_slot, is_filled_slot, is_loose_slot, slot_after, victim_at}
use Rattle.vm_types.specs.declared.ring_choice.Choice.{Choice}
use Rattle.vm_types.specs.declared.ring_choice.Choice.TheVariants.{Empty, Victim, AllLocked}
use Rattle.pager_model.specs.Ring.{placed, placed_at}
use Rattle.working_set.specs.Offers.{Offers}
use Rattle.working_set.proofs.Chosen.{offers_empty}
use Rattle.working_set.proofs.Counts.{filled_below}
use Rattle.shadow_tables.specs.Rings.{IsWithin}

-- what is offered is a slot of the ring
pub offered_within : (ring : Ring) (limit : ℕ) (choice : Choice) → Offers ring limit choice → IsWithin (length ring.slots) choice
offered_within ring limit (Empty slot) offered = offered.empty.exists
offered_within ring limit (Victim slot) offered = offered.exists
offered_within ring limit AllLocked offered = tt

module _ (ring : Ring) (limit : ℕ) where
  -- by whether the count is below the limit
  by_count : (b : Bool) → nat_lt (filled ring.slots) limit ≡ b → choose ring limit ≡ cond b (empty_at ring (position is_empty_slot (from_hand ring))) (victim_at ring (position is_loose_slot (from_hand ring)))
  by_count b is = ap (λ (b : Bool). cond b (empty_at ring (position is_empty_slot (from_hand ring))) (victim_at ring (position is_loose_slot (from_hand ring)))) is

  below_limit : filled ring.slots < limit → choose ring limit ≡ empty_at ring (position is_empty_slot (from_hand ring))
  below_limit below = by_count true (lt-ltb _ _ below)

  at_limit : limit ≤ filled ring.slots → choose ring limit ≡ victim_at ring (position is_loose_slot (from_hand ring))
  at_limit full = by_count false (le-ltb _ _ full)

-- at the limit a ring takes no page
pub takes_none : (ring : Ring) (limit v : ℕ) → limit ≤ filled ring.slots → placed ring limit v ≡ ring
takes_none ring limit v full = ap (λ (choice : Choice). placed_at choice ring v) (at_limit ring limit full) ∙ none (position is_loose_slot (from_hand ring))
  where
    none : (places : Option ℕ) → placed_at (victim_at ring places) ring v ≡ ring
    none None = refl
    none (Some places) = refl

-- below two limits the same slot is offered
pub same_offered : (ring : Ring) (low high : ℕ) → filled ring.slots < low → low ≤ high → choose ring low ≡ choose ring high
same_offered ring low high below within = below_limit ring low below ∙ sym (below_limit ring high (omega arith))

pub same_placed : (ring : Ring) (low high v : ℕ) → filled ring.slots < low → low ≤ high → placed ring low v ≡ placed ring high v
same_placed ring low high v below within = ap (λ (choice : Choice). placed_at choice ring v) (same_offered ring low high below within)

module _ (ring : Ring) (hand : ring.hand < length ring.slots) where
  -- where each slot is filled, none is empty
  none_empty : length ring.slots ≤ filled ring.slots → position is_empty_slot (from_hand ring) ≡ None
  none_empty full = go (position is_empty_slot (from_hand ring)) refl
    where
      go : (places : Option ℕ) → position is_empty_slot (from_hand ring) ≡ places → places ≡ None
      go None is = refl
      go (Some places) is =
          let offered = offers_empty ring hand (filled ring.slots + 1) places (omega arith) is in
          let fewer = filled_below ring.slots (slot_after ring places) offered.empty.exists offered.empty.empty in
          absurd (omega arith)

  -- so a limit past the slots offers none, and the ring takes no page
  pub full_offers_none : (limit : ℕ) → filled ring.slots < limit → length ring.slots ≤ filled ring.slots → choose ring limit ≡ AllLocked
  full_offers_none limit below full = below_limit ring limit below ∙ ap (empty_at ring) (none_empty full)

  pub full_takes_none : (limit v : ℕ) → length ring.slots ≤ filled ring.slots → placed ring limit v ≡ ring
  full_takes_none limit v full = go (cases_lt (filled ring.slots) limit)
    where
      go : (filled ring.slots < limit) ⊎ (limit ≤ filled ring.slots) → placed ring limit v ≡ ring
      go (inl below) = ap (λ (choice : Choice). placed_at choice ring v) (full_offers_none limit below full)
      go (inr past) = takes_none ring limit v past
