-- At the limit the ring's victim is seen, whatever is in flight.
use Rattle.std.proofs.Common.{◌≡◌, ◌⊎◌, inl, inr, ℕ, ◌<◌, ◌≤◌, Bool, true, cond, List, Option, Some, None, length, slice_get, slice_index_or, refl, sym, ap, ◌∙◌, arith}
use Rattle.std.specs.List.{position}
use Rattle.std.proofs.lemmas.Bool.{false≢true, le-ltb}
use Rattle.std.proofs.lemmas.Option.{get_or_from_slice_get, slice_get_cases}
use Rattle.vm_types.specs.Configuration.{IsWellFormed}
use Rattle.vm_types.specs.Ring.{Held, Ring, choose, empty_at, filled, from_hand, is_empty_slot, is_loose_slot, slot_after, victim_at}
use Rattle.vm_types.specs.declared.ring_choice.Choice.{Choice}
use Rattle.vm_types.specs.declared.ring_choice.Choice.TheVariants.{Victim}
use Rattle.vm_types.specs.declared.config.Config.{Config}
use Rattle.vm_journal.specs.declared.entry.Entry.{Entry}
use Rattle.working_set.proofs.FromHand.{first_passes, slot_after-lt-length}
use Rattle.pager_model.specs.Around.{past_view}
use Rattle.pager_model.specs.Evict.{victim_of}
use Rattle.pager_policy.specs.Given.{Seen, seen_at}
use Rattle.pager_model.specs.Pager.{Pager}
use Rattle.pager_model.specs.Run.{IsRun, pager_after}
use Rattle.pager_model.specs.Sound.{IsBounded}
use Rattle.pager_rules.specs.Kept.{IsKept}
use Rattle.pager_laws.proofs.RunsAreSound.{run_kept}
use Rattle.pager_laws.proofs.RingBounds.{bounded}
use Rattle.call_laws.proofs.Chosen.{has_victim}
use Rattle.serial_laws.proofs.Slots.{slot_seen}

-- the place of the first page that is neither locked nor pinned from the hand on
chosen_place : (ring : Ring) (slot : ℕ) (o : Option ℕ) → victim_at ring o ≡ Victim slot → (k : ℕ) × (o ≡ Some k) × (slot_after ring k ≡ slot)
chosen_place ring slot None is = absurd (cc)
chosen_place ring slot (Some k) is = (k, refl, ap victim_of is)

-- a slot with such a page is filled
loose_filled : (slots : List (Option Held)) (n : ℕ) → n < length slots → is_loose_slot (slice_index_or slots n None) ≡ true → (held : Held) × (slice_get slots n ≡ Some (Some held))
loose_filled slots n within unlocked = by (slice_get_cases slots n).1
  where
    held_in : (o : Option Held) → slice_get slots n ≡ Some o → is_loose_slot o ≡ true → (held : Held) × (slice_get slots n ≡ Some (Some held))
    held_in None there is = absurd (false≢true is)
    held_in (Some held) there is = (held, there)

    by : ((o : Option Held) × (n < length slots) × (slice_get slots n ≡ Some o) × (slice_index_or slots n o ≡ o)) ⊎ ((length slots ≤ n) × (slice_get slots n ≡ None)) → (held : Held) × (slice_get slots n ≡ Some (Some held))
    by (inl found) = held_in found.0 found.2 (ap is_loose_slot (sym (get_or_from_slice_get slots n found.0 None found.2)) ∙ unlocked)
    by (inr outside) = absurd (omega (arith, outside.0, within))

module _ (config : Config) (past : List Entry) (formed : IsWellFormed config) (run : IsRun config past) (p : ℕ) (process : p < length config.procs) where
  abbrev a : Pager
  a = pager_after config past

  kept : IsKept config (past_view past) a
  kept = run_kept config past formed run

  bounds : IsBounded config.version (bounded config (past_view past) (pager_after config past) formed kept p process).0 (a.ring p) (a.limit p)
  bounds = (bounded config (past_view past) (pager_after config past) formed kept p process).1

  place : a.limit p ≤ filled (a.ring p).slots → (slot : ℕ) × ((k : ℕ) × (position is_loose_slot (from_hand (a.ring p)) ≡ Some k) × (slot_after (a.ring p) k ≡ slot)) × (choose (a.ring p) (a.limit p) ≡ Victim slot)
  place full =
      let chosen = has_victim (a.ring p) (a.limit p) full (let least = bounds.least in let few = bounds.locks in omega (arith, least, few)) in
      let at_limit : choose (a.ring p) (a.limit p) ≡ victim_at (a.ring p) (position is_loose_slot (from_hand (a.ring p))) =
      ap (λ (b : Bool). cond b (empty_at (a.ring p) (position is_empty_slot (from_hand (a.ring p)))) (victim_at (a.ring p) (position is_loose_slot (from_hand (a.ring p))))) (le-ltb (filled (a.ring p).slots) (a.limit p) full) in
      (chosen.0, chosen_place (a.ring p) chosen.0 (position is_loose_slot (from_hand (a.ring p))) (sym at_limit ∙ chosen.1), chosen.1)

  pub victim_seen : a.limit p ≤ filled (a.ring p).slots → (s : Seen) × (seen_at a p (victim_of (choose (a.ring p) (a.limit p))) ≡ Some s)
  victim_seen full =
      let found = place full in
      let on_slot : (a.ring p).hand < length (a.ring p).slots = (let hand = bounds.hand in let slots = bounds.slots in omega (arith, hand, slots)) in
      let held = loose_filled (a.ring p).slots (slot_after (a.ring p) found.1.0) (slot_after-lt-length (a.ring p) on_slot is_loose_slot found.1.0 found.1.1) (first_passes (a.ring p) on_slot is_loose_slot found.1.0 found.1.1) in
      let seen = slot_seen config past kept p (slot_after (a.ring p) found.1.0) held.0 held.1 in
      (seen.seen, ap (λ (c : Choice). seen_at a p (victim_of c)) found.2 ∙ (ap (seen_at a p) (sym found.1.2) ∙ seen.is))
