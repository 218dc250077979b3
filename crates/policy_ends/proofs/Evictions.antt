-- An eviction in the rundown: its slot has no shared page any more, and no other one gets one.
use Rattle.std.proofs.Common.{◌≡◌, ◌⊎◌, inl, inr, ℕ, zero, suc, ◌+◌, ◌<◌, ◌≤◌, ◌&&◌, Bool, true, false, cond, List, [], ◌∷◌, Option, Some, None, nat_eq, slice_get, slice_set, refl, sym, ap, ◌∙◌, subst, arith}
use Rattle.std.proofs.lemmas.Bool.{and_parts, eqb-true}
use Rattle.vm_types.specs.Ring.{Held}
use Rattle.vm_types.specs.declared.names.FrameState.{FrameState}
use Rattle.vm_journal.specs.declared.entry.EvictWhy.TheVariants as evict
use Rattle.pager_model.specs.Changes.{without_entry}
use Rattle.pager_model.specs.Evict.{after_evict, evicted_ring}
use Rattle.pager_policy.specs.Given.{Seen, page_address, seen_at, seen_by, seen_in}
use Rattle.pager_model.specs.Lookups.{passes, entry_of, slot_of}
use Rattle.pager_model.specs.Maps.{page_number}
use Rattle.pager_model.specs.Pager.{Pager, Valid}
use Rattle.pager_policy.specs.Rundown.{is_shared_at}
use Rattle.pager_policy.specs.Swap.{is_shared_seen}
use Rattle.pager_laws.proofs.EntryPages.{gone_here, gone_there}
use Rattle.call_laws.proofs.FreeTurn.{same_number}
use Rattle.call_laws.proofs.WaitsLegal.{IsSeen}
use Rattle.policy_ends.specs.Clean.{IsEarlier, NoneBefore}
use Rattle.policy_ends.proofs.Searches.{or_later}

-- a slot that is set to nothing, among the others
set_none : (xs : List (Option Held)) (i m : ℕ) → (slot_of (slice_get (slice_set xs i None) m) ≡ None) ⊎ (slot_of (slice_get (slice_set xs i None) m) ≡ slot_of (slice_get xs m))
set_none [] i m = inr refl
set_none (x ∷ xs) zero zero = inl refl
set_none (x ∷ xs) zero (suc m) = inr refl
set_none (x ∷ xs) (suc i) zero = inr refl
set_none (x ∷ xs) (suc i) (suc m) = set_none xs i m

module _ (a : Pager) (p address f : ℕ) (to : FrameState) where
  abbrev now : Pager
  now = after_evict a evict.Rundown p address f to

  abbrev v : ℕ
  v = page_number address

  slots_now : (q m : ℕ) → (slot_of (slice_get (now.ring q).slots m) ≡ None) ⊎ (slot_of (slice_get (now.ring q).slots m) ≡ slot_of (slice_get (a.ring q).slots m))
  slots_now q m = by (nat_eq p q) refl
    where
      by : (b : Bool) → nat_eq p q ≡ b → (slot_of (slice_get (cond b (evicted_ring evict.Rundown (a.ring p) (a.limit p) v) (a.ring q)).slots m) ≡ None)
          ⊎ (slot_of (slice_get (cond b (evicted_ring evict.Rundown (a.ring p) (a.limit p) v) (a.ring q)).slots m) ≡ slot_of (slice_get (a.ring q).slots m))
      by true is =
          subst (λ (r : ℕ). (slot_of (slice_get (evicted_ring evict.Rundown (a.ring p) (a.limit p) v).slots m) ≡ None) ⊎ (slot_of (slice_get (evicted_ring evict.Rundown (a.ring p) (a.limit p) v).slots m) ≡ slot_of (slice_get (a.ring r).slots m)))
          (eqb-true p q is) (set_none (a.ring p).slots _ m)
      by false is = inr refl

  entry_gone : (q w : ℕ) → (nat_eq p q && nat_eq v w) ≡ true → entry_of (without_entry a.valid p v) q w ≡ None
  entry_gone q w both =
      let parts = and_parts (nat_eq p q) (nat_eq v w) both in
      subst (λ (u : ℕ). entry_of (without_entry a.valid p v) q u ≡ None) (eqb-true v w parts.1) (subst (λ (r : ℕ). entry_of (without_entry a.valid p v) r v ≡ None) (eqb-true p q parts.0) (gone_here a.valid p v))

  -- what is seen in a slot is seen there no more, or as before
  in_slot : (q : ℕ) (o : Option Held) → (seen_in now q o ≡ None) ⊎ (seen_in now q o ≡ seen_in a q o)
  in_slot q None = inl refl
  in_slot q (Some held) = by (nat_eq p q && nat_eq v held.vpn) refl
    where
      by_entry : (o : Option Valid) → seen_by now held o ≡ seen_by a held o
      by_entry None = refl
      by_entry (Some e) = refl

      by : (b : Bool) → (nat_eq p q && nat_eq v held.vpn) ≡ b → (seen_by now held (entry_of (without_entry a.valid p v) q held.vpn) ≡ None) ⊎ (seen_by now held (entry_of (without_entry a.valid p v) q held.vpn) ≡ seen_by a held (entry_of a.valid q held.vpn))
      by true both = inl (ap (seen_by now held) (entry_gone q held.vpn both))
      by false apart = inr (ap (seen_by now held) (gone_there a.valid p v q held.vpn apart) ∙ by_entry (entry_of a.valid q held.vpn))

  pub seen_now : (q m : ℕ) → (seen_at now q m ≡ None) ⊎ (seen_at now q m ≡ seen_at a q m)
  seen_now q m = by (slots_now q m)
    where
      as_before : slot_of (slice_get (now.ring q).slots m) ≡ slot_of (slice_get (a.ring q).slots m) → (seen_in now q (slot_of (slice_get (a.ring q).slots m)) ≡ None) ⊎ (seen_in now q (slot_of (slice_get (a.ring q).slots m)) ≡ seen_at a q m) → (seen_at now q m ≡ None) ⊎ (seen_at now q m ≡ seen_at a q m)
      as_before same (inl none) = inl (ap (seen_in now q) same ∙ none)
      as_before same (inr seen) = inr (ap (seen_in now q) same ∙ seen)

      by : (slot_of (slice_get (now.ring q).slots m) ≡ None) ⊎ (slot_of (slice_get (now.ring q).slots m) ≡ slot_of (slice_get (a.ring q).slots m)) → (seen_at now q m ≡ None) ⊎ (seen_at now q m ≡ seen_at a q m)
      by (inl empty) = inl (ap (seen_in now q) empty)
      by (inr same) = as_before same (in_slot q (slot_of (slice_get (a.ring q).slots m)))

  stays_unshared : (q m : ℕ) → is_shared_at a q m ≡ false → is_shared_at now q m ≡ false
  stays_unshared q m none = by (seen_now q m)
    where
      by : (seen_at now q m ≡ None) ⊎ (seen_at now q m ≡ seen_at a q m) → is_shared_at now q m ≡ false
      by (inl gone) = ap (passes is_shared_seen) gone
      by (inr same) = ap (passes is_shared_seen) same ∙ none

  taken_here : (n : ℕ) (held : Held) → slice_get (a.ring p).slots n ≡ Some (Some held) → held.vpn ≡ v → is_shared_at now p n ≡ false
  taken_here n held slot vpn = by (slots_now p n)
    where
      by : (slot_of (slice_get (now.ring p).slots n) ≡ None) ⊎ (slot_of (slice_get (now.ring p).slots n) ≡ slot_of (slice_get (a.ring p).slots n)) → is_shared_at now p n ≡ false
      by (inl empty) = ap (λ (o : Option Held). passes is_shared_seen (seen_in now p o)) empty
      by (inr same) =
          ap (λ (o : Option Held). passes is_shared_seen (seen_in now p o)) (same ∙ ap slot_of slot)
          ∙ ap (λ (o : Option Valid). passes is_shared_seen (seen_by now held o)) (ap (entry_of (without_entry a.valid p v) p) vpn ∙ gone_here a.valid p v)

-- what is seen in a slot is evicted: what afterwards each slot before it has, and each one without a shared page, each
-- slot before the next one has
pub evicted_before : (a : Pager) (p n : ℕ) (s : Seen) (to : FrameState) → IsSeen a p n s → (P : ℕ → ℕ → Type 0)
    → ((q m : ℕ) → is_shared_at (after_evict a evict.Rundown p (page_address s.vpn).0 s.frame to) q m ≡ false → P q m) → ((q m : ℕ) → IsEarlier q m p n → P q m) → (q m : ℕ) → IsEarlier q m p (n + 1) → P q m
evicted_before a p n s to seen P unshared before q m earlier = by earlier
  where
    here : is_shared_at (after_evict a evict.Rundown p (page_address s.vpn).0 s.frame to) p n ≡ false
    here = taken_here a p (page_address s.vpn).0 s.frame to n seen.held seen.slot (seen.vpn ∙ sym (same_number s.vpn))

    at_last : q ≡ p → m ≡ n → P q m
    at_last same same_slot =
        unshared q m
        (subst (λ (r : ℕ). is_shared_at (after_evict a evict.Rundown p (page_address s.vpn).0 s.frame to) r m ≡ false) (sym same)
        (subst (λ (k : ℕ). is_shared_at (after_evict a evict.Rundown p (page_address s.vpn).0 s.frame to) p k ≡ false) (sym same_slot) here))

    in_process : q ≡ p → m < n + 1 → (m < n) ⊎ (n ≤ m) → P q m
    in_process same less (inl small) = before q m (inr (same, small))
    in_process same less (inr least) = at_last same (omega (arith, less, least))

    by : IsEarlier q m p (n + 1) → P q m
    by (inl less) = before q m (inl less)
    by (inr (same, less)) = in_process same less (or_later m n)

-- a slot before which no one has a shared page: the slot after it is such a one
pub evicted_clean : (a : Pager) (p n : ℕ) (s : Seen) (to : FrameState) → IsSeen a p n s → NoneBefore a p n → NoneBefore (after_evict a evict.Rundown p (page_address s.vpn).0 s.frame to) p (n + 1)
evicted_clean a p n s to seen before =
    evicted_before a p n s to seen (λ q m. is_shared_at (after_evict a evict.Rundown p (page_address s.vpn).0 s.frame to) q m ≡ false) (λ q m none. none)
    (λ q m earlier. stays_unshared a p (page_address s.vpn).0 s.frame to q m (before q m earlier))
