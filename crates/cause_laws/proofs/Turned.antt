-- The process that is turned to leaving is so for a cause.
use Rattle.std.proofs.Common.{◌≡◌, ◌⊎◌, inl, inr, ℕ, ◌<◌, ◌&&◌, Bool, true, false, cond, not, List, [], ◌∷◌, Option, Some, None, length, filter, find, nat_eq, nat_le, refl, sym, ap, ◌∙◌, arith}
use Rattle.std.specs.List.{range_with_len}
use Rattle.std.proofs.lemmas.Bool.{and_parts, not-true, true≢false}
use Rattle.std.proofs.lemmas.Option.{none-some, same_Some}
use Rattle.vm_types.specs.Status.{is_coming, is_resident}
use Rattle.vm_types.specs.declared.names.ProcStatus.TheVariants as status
use Rattle.vm_types.specs.declared.config.Config.{Config}
use Rattle.vm_journal.specs.declared.entry.Entry.{Entry}
use Rattle.pager_model.specs.Pager.{Pager}
use Rattle.pager_model.specs.Run.{pager_after}
use Rattle.pager_policy.specs.Swap.{earlier, earliest, is_but, last_spoken, may_leave, or_else, processes_where, victim_gives}
use Rattle.pager_rules.proofs.Basics.{nat_eq_refl}
use Rattle.pager_rules.proofs.Lists.{found_passes}
use Rattle.pager_laws.proofs.OpeningKept.{in_range}
use Rattle.call_laws.proofs.ServeLegal.{unfound}
use Rattle.entry_causes.specs.FrameWanted.{WantsFrame}
use Rattle.entry_causes.specs.TurnCause.{IsNoneLeaving, IsTurnCause}
use Rattle.entry_causes.specs.WriteCause.{AreFewFree}

-- ---- it is another one than the process that wants a frame
earliest_passes : (key : ℕ → ℕ) (t : ℕ → Bool) (xs : List ℕ) (q : ℕ) → earliest key (filter t xs) ≡ Some q → t q ≡ true
earliest_passes key t [] q is = absurd (none-some q is)
earliest_passes key t (x ∷ xs) q is = by (t x) refl (earliest_passes key t xs q) is
  where
    first_or : (o : Option ℕ) → t x ≡ true → (o ≡ Some q → t q ≡ true) → earlier key x o ≡ Some q → t q ≡ true
    first_or None passes rest one = ap t (sym (same_Some x q one)) ∙ passes
    first_or (Some y) passes rest one = go (nat_le (key x) (key y)) one
      where
        go : (b : Bool) → cond b (Some x) (Some y) ≡ Some q → t q ≡ true
        go true here = ap t (sym (same_Some x q here)) ∙ passes
        go false there = rest there

    by : (b : Bool) → t x ≡ b → (earliest key (filter t xs) ≡ Some q → t q ≡ true) → earliest key (cond b (x ∷ filter t xs) (filter t xs)) ≡ Some q → t q ≡ true
    by true passes rest one = first_or (earliest key (filter t xs)) passes rest one
    by false fails rest one = rest one

module _ (past : List Entry) (b : Pager) (p : ℕ) where
  abbrev resident_test : ℕ → Bool
  resident_test r = not (is_but (Some p) r) && (may_leave past b r && is_resident (b.status r))

  abbrev coming_test : ℕ → Bool
  coming_test r = not (is_but (Some p) r) && (may_leave past b r && is_coming (b.status r))

  apart : (q : ℕ) (c : Bool) → (not (nat_eq p q) && c) ≡ true → p ≡ q → ⊥
  apart q c is same = true≢false (sym (ap (nat_eq p) (sym same) ∙ nat_eq_refl p) ∙ not-true (nat_eq p q) (and_parts (not (nat_eq p q)) c is).0)

  victim_other : (config : Config) (q : ℕ) → victim_gives config past b (Some p) ≡ Some q → p ≡ q → ⊥
  victim_other config q found = go (earliest (λ (r : ℕ). last_spoken r past) (processes_where config resident_test)) refl found
    where
      go : (o : Option ℕ) → earliest (λ (r : ℕ). last_spoken r past) (processes_where config resident_test) ≡ o → or_else o (find coming_test (range_with_len 0 (length config.procs))) ≡ Some q → p ≡ q → ⊥
      go None first is = apart q _ (found_passes coming_test (range_with_len 0 (length config.procs)) q is)
      go (Some x) first is = apart q _ (earliest_passes (λ (r : ℕ). last_spoken r past) resident_test (range_with_len 0 (length config.procs)) q (first ∙ is))

-- ---- it leaves for a process that wants a frame, or because few are free
pub victim_turned : (config : Config) (past : List Entry) (seat p q : ℕ) → (pager_after config past).modified ≡ [] → IsNoneLeaving config (pager_after config past) → victim_gives config past (pager_after config past) (Some p) ≡ Some q
    → (((pager_after config past).free ≡ []) × WantsFrame config past (pager_after config past) p) ⊎ AreFewFree config (pager_after config past) seat → IsTurnCause config past (pager_after config past) seat q status.Leaving
victim_turned config past seat p q empty none found (inl missed) =
    inr (inl (record { none_free = missed.0; none_listed = empty; none_leaving = none; p = p; other = victim_other past (pager_after config past) p config q found; wants = missed.1 }))
victim_turned config past seat p q empty none found (inr few) = inl few

-- ---- no process is leaving where none but this one is looked for, and it wants a frame
pub none_where : (t : ℕ → Bool) (n q : ℕ) → find t (range_with_len 0 n) ≡ None → q < n → t q ≡ true → ⊥
none_where t n q none below passes = let there = in_range 0 n q (omega arith) (omega (arith, below)) in unfound t (range_with_len 0 n) q none (omega (arith, there)) passes

pub wanting_stays : (config : Config) (past : List Entry) (a : Pager) (p : ℕ) → WantsFrame config past a p → a.status p ≡ status.Leaving → ⊥
wanting_stays config past a p (inl fault) leaving = let both : status.Leaving ≡ status.Resident = sym leaving ∙ fault.own.resident in absurd (cc)
wanting_stays config past a p (inr come) leaving = let both : status.Leaving ≡ status.Coming = sym leaving ∙ come.coming in absurd (cc)

pub none_leaves : (config : Config) (past : List Entry) (a : Pager) (p : ℕ) → WantsFrame config past a p → ((q : ℕ) → q < length config.procs → a.status q ≡ status.Leaving → p ≡ q) → IsNoneLeaving config a
none_leaves config past a p wants alone q below leaving = wanting_stays config past a p wants (ap a.status (alone q below leaving) ∙ leaving)
