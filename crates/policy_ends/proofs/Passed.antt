-- What the rundown has passed: a shared page that is still in a slot is marked as modified. A cluster keeps it, and an
-- eviction.
use Rattle.std.proofs.Common.{◌≡◌, ◌⊎◌, inl, inr, ℕ, ◌+◌, ◌<◌, ◌≤◌, Bool, true, false, cond, List, Some, None, nat_eq, refl, sym, ap, ◌∙◌, subst, arith}
use Rattle.std.proofs.lemmas.Bool.{and_parts, eq-eqb, false≢true}
use Rattle.std.proofs.lemmas.Option.{none-some, same_Some}
use Rattle.vm_types.specs.declared.names.FrameState.{FrameState}
use Rattle.vm_types.specs.declared.names.FrameState.TheVariants as state
use Rattle.vm_types.specs.declared.config.Config.{Config}
use Rattle.vm_journal.specs.declared.entry.Entry.{Entry}
use Rattle.vm_journal.specs.declared.entry.EvictWhy.TheVariants as evict
use Rattle.pager_model.specs.Evict.{after_evict}
use Rattle.pager_policy.specs.Given.{Seen, goes_to, is_stopped, page_address, seen_at}
use Rattle.pager_model.specs.Lookups.{passes, is, is_entry, shares}
use Rattle.pager_model.specs.Pager.{Pager, Valid}
use Rattle.pager_policy.specs.Rundown.{is_shared_at}
use Rattle.pager_policy.specs.Swap.{is_shared_seen}
use Rattle.pager_rules.proofs.Lists.{count_found}
use Rattle.call_laws.proofs.WaitsLegal.{IsSeen, is_seen}
use Rattle.policy_ends.specs.Clean.{IsEarlier}
use Rattle.policy_ends.proofs.Clusters.{IsStill, seen_still}
use Rattle.policy_ends.proofs.Evictions.{evicted_before, seen_now}
use Rattle.policy_ends.proofs.Searches.{or_later}

-- the shared page in this slot, if there is one, is marked
abbrev pub IsMarkedAt : Pager → ℕ → ℕ → Type 0
IsMarkedAt a p n = (s : Seen) → seen_at a p n ≡ Some s → is_shared_seen s ≡ true → a.modify s.frame ≡ true

abbrev pub MarkedBefore : Pager → ℕ → ℕ → Type 0
MarkedBefore a p n = (q m : ℕ) → IsEarlier q m p n → IsMarkedAt a q m

abbrev pub AllMarked : Pager → Type 0
AllMarked a = (q m : ℕ) → IsMarkedAt a q m

pub unshared_marked : (a : Pager) (p n : ℕ) → is_shared_at a p n ≡ false → IsMarkedAt a p n
unshared_marked a p n none s is shared = absurd (false≢true (sym none ∙ (ap (passes is_shared_seen) is ∙ shared)))

-- a frame in which a slot's page is seen is shared
pub seen_shares : (a : Pager) (p n : ℕ) (s : Seen) → IsSeen a p n s → 0 < shares a.valid s.frame
seen_shares a p n s seen = count_found (λ (e : Valid). nat_eq e.frame s.frame) (is_entry p s.vpn) a.valid seen.entry seen.valid (eq-eqb seen.entry.frame s.frame seen.frame)

-- a cluster clears no mark of such a frame
pub still_marked : (a b : Pager) → IsStill a b → ((f : ℕ) → 0 < shares a.valid f → a.modify f ≡ true → b.modify f ≡ true) → (p n : ℕ) → IsMarkedAt a p n → IsMarkedAt b p n
still_marked a b still marks p n marked s is shared =
    let before : seen_at a p n ≡ Some s = sym (seen_still a b still p n) ∙ is in
    marks s.frame (seen_shares a p n s (is_seen a p n s before)) (marked s before shared)

-- an eviction clears none
module _ (a : Pager) (p n : ℕ) (s : Seen) (to : FrameState) (seen : IsSeen a p n s) (before : MarkedBefore a p n) where
  abbrev now : Pager
  now = after_evict a evict.Rundown p (page_address s.vpn).0 s.frame to

  evicted_marked_at : (q m : ℕ) → IsMarkedAt a q m → IsMarkedAt now q m
  evicted_marked_at q m marked t is shared = by (seen_now a p (page_address s.vpn).0 s.frame to q m)
    where
      by : (seen_at now q m ≡ None) ⊎ (seen_at now q m ≡ seen_at a q m) → now.modify t.frame ≡ true
      by (inl gone) = absurd (none-some t (sym gone ∙ is))
      by (inr same) = marked t (sym same ∙ is) shared

  pub evicted_marked : MarkedBefore now p (n + 1)
  evicted_marked = evicted_before a p n s to seen (IsMarkedAt now) (unshared_marked now) (λ q m earlier. evicted_marked_at q m (before q m earlier))

-- a slot at which the eviction is stopped is passed
stopped_mark : (b c m : Bool) → is state.Modified (cond b state.Active (cond c state.ReleasePending (cond m state.Modified state.Free))) ≡ true → m ≡ true
stopped_mark true c m is = absurd (false≢true is)
stopped_mark false true m is = absurd (false≢true is)
stopped_mark false false true is = refl
stopped_mark false false false is = absurd (false≢true is)

pub stopped_before : (config : Config) (past : List Entry) (a : Pager) (p n : ℕ) (s : Seen) → seen_at a p n ≡ Some s → is_stopped config past a s.frame ≡ true → MarkedBefore a p n → MarkedBefore a p (n + 1)
stopped_before config past a p n s at_slot stopped before q m earlier = by earlier
  where
    mark : a.modify s.frame ≡ true
    mark = stopped_mark _ _ (a.modify s.frame) (and_parts (is state.Modified (goes_to past a s.frame)) _ stopped).0

    here : IsMarkedAt a p n
    here t seen shared = ap (λ (x : Seen). a.modify x.frame) (sym (same_Some s t (sym at_slot ∙ seen))) ∙ mark

    at_last : q ≡ p → m ≡ n → IsMarkedAt a q m
    at_last same same_slot = subst (λ (r : ℕ). IsMarkedAt a r m) (sym same) (subst (IsMarkedAt a p) (sym same_slot) here)

    in_process : q ≡ p → m < n + 1 → (m < n) ⊎ (n ≤ m) → IsMarkedAt a q m
    in_process same less (inl small) = before q m (inr (same, small))
    in_process same less (inr least) = at_last same (omega (arith, less, least))

    by : IsEarlier q m p (n + 1) → IsMarkedAt a q m
    by (inl less) = before q m (inl less)
    by (inr (same, less)) = in_process same less (or_later m n)
