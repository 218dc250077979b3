-- The turns that the policy makes of a process's status are legal.
use Rattle.std.proofs.Common.{◌≡◌, ◌⊎◌, inl, inr, ℕ, zero, suc, ◌+◌, ◌<◌, ◌≤◌, ◌&&◌, ◌||◌, Bool, true, false, cond, not, List, [], ◌∷◌, Option, Some, None, length, find, filter, nat_le, refl, sym, ap, ◌∙◌, subst, arith}
use Rattle.std.specs.List.{AllByRecursion, range_with_len}
use Rattle.std.proofs.lemmas.Bool.{not-true, and_parts, cases_lt, false≢true, or_cases}
use Rattle.std.proofs.lemmas.Option.{none-some, same_Some}
use Rattle.vm_types.specs.declared.config.Config.{Config}
use Rattle.vm_types.specs.declared.names.ProcStatus.{ProcStatus}
use Rattle.vm_types.specs.declared.names.ProcStatus.TheVariants as status
use Rattle.vm_journal.specs.declared.entry.Entry.{Entry}
use Rattle.vm_journal.specs.declared.entry.What.TheVariants as what
use Rattle.pager_model.specs.Flights.{is_busy, open_flights}
use Rattle.pager_policy.specs.Given.{by_seat}
use Rattle.vm_types.specs.Status.{is_coming, is_resident}
use Rattle.pager_model.specs.Maps.{proc}
use Rattle.pager_model.specs.Pager.{Pager}
use Rattle.pager_policy.specs.Policy.{coming_process}
use Rattle.pager_model.specs.Run.{pager_after}
use Rattle.pager_model.specs.Step.{IsLegal}
use Rattle.pager_policy.specs.Swap.{earlier, earliest, is_but, last_spoken, may_leave, or_else, processes_where, victim_gives}
use Rattle.pager_model.specs.Transfers.{has_come}
use Rattle.pager_rules.proofs.Lists.{found_passes}
use Rattle.pager_laws.proofs.OpeningKept.{in_range}
use Rattle.call_laws.specs.Ready.{MayWork}
use Rattle.call_laws.proofs.FreeTurn.{free_turn}
use Rattle.call_laws.proofs.ServeLegal.{unfound}

is_coming_is : (s : ProcStatus) → is_coming s ≡ true → s ≡ status.Coming
is_coming_is status.Coming is = refl
is_coming_is status.Resident is = absurd (false≢true is)
is_coming_is status.Leaving is = absurd (false≢true is)
is_coming_is status.Gone is = absurd (false≢true is)

is_resident_is : (s : ProcStatus) → is_resident s ≡ true → s ≡ status.Resident
is_resident_is status.Resident is = refl
is_resident_is status.Coming is = absurd (false≢true is)
is_resident_is status.Leaving is = absurd (false≢true is)
is_resident_is status.Gone is = absurd (false≢true is)

-- a number of a range is below its end
found_below : (t : ℕ → Bool) (s n q : ℕ) → find t (range_with_len s n) ≡ Some q → q < s + n
found_below t s zero q is = absurd (none-some q is)
found_below t s (suc n) q is = go (t s) is (found_below t (s + 1) n q)
  where
    go : (b : Bool) → cond b (Some s) (find t (range_with_len (s + 1) n)) ≡ Some q → (find t (range_with_len (s + 1) n) ≡ Some q → q < s + 1 + n) → q < s + suc n
    go true here rest = let same = same_Some s q here in omega (arith, same)
    go false later rest = let below = rest later in omega (arith, below)

-- the first with the least key is one of the list
earliest_of : (key : ℕ → ℕ) (P : ℕ → Type 0) (xs : List ℕ) (q : ℕ) → AllByRecursion P xs → earliest key xs ≡ Some q → P q
earliest_of key P [] q each is = absurd (none-some q is)
earliest_of key P (x ∷ xs) q each is = go (earliest key xs) refl is (earliest_of key P xs q each.1)
  where
    go : (o : Option ℕ) → earliest key xs ≡ o → earlier key x o ≡ Some q → (earliest key xs ≡ Some q → P q) → P q
    go None found is rest = subst P (same_Some x q is) each.0
    go (Some y) found is rest = by (nat_le (key x) (key y)) is
      where
        by : (b : Bool) → cond b (Some x) (Some y) ≡ Some q → P q
        by true is = subst P (same_Some x q is) each.0
        by false is = rest (found ∙ is)

kept_pass : (t : ℕ → Bool) (s n : ℕ) → AllByRecursion (λ (q : ℕ). (t q ≡ true) × (q < s + n)) (filter t (range_with_len s n))
kept_pass t s zero = tt
kept_pass t s (suc n) = go (t s) refl (later (filter t (range_with_len (s + 1) n)) (kept_pass t (s + 1) n))
  where
    later : (xs : List ℕ) → AllByRecursion (λ (q : ℕ). (t q ≡ true) × (q < s + 1 + n)) xs → AllByRecursion (λ (q : ℕ). (t q ≡ true) × (q < s + suc n)) xs
    later [] each = tt
    later (x ∷ xs) each = ((each.0.0, (let below = each.0.1 in omega (arith, below))), later xs each.1)

    go : (b : Bool) → t s ≡ b → AllByRecursion (λ (q : ℕ). (t q ≡ true) × (q < s + suc n)) (filter t (range_with_len (s + 1) n)) → AllByRecursion (λ (q : ℕ). (t q ≡ true) × (q < s + suc n)) (cond b (s ∷ filter t (range_with_len (s + 1) n)) (filter t (range_with_len (s + 1) n)))
    go true is rest = ((is, omega arith), rest)
    go false is rest = rest

module _ (config : Config) (past : List Entry) (seat : ℕ) (may : MayWork config past seat) where
  abbrev a : Pager
  a = pager_after config past

  -- a process that may leave is turned to leaving
  leaving_legal : (q : ℕ) → q < length config.procs → may_leave past a q ≡ true → IsLegal config past a (by_seat seat (what.Turn (proc q) status.Leaving))
  leaving_legal q process leaves = record {
    in_turn = free_turn config past seat _ may.free;
    line = record { seat = may.seat_there; what = process };
    row = record { process = process; turned = record { was = was; idle = not-true (is_busy q (open_flights past)) still.0; no_come = not-true (has_come q (open_flights past)) still.1 } };
  }
    where
      parts : ((is_resident (a.status q) || is_coming (a.status q)) ≡ true) × ((not (is_busy q (open_flights past)) && not (has_come q (open_flights past))) ≡ true)
      parts = and_parts _ _ leaves

      still : (not (is_busy q (open_flights past)) ≡ true) × (not (has_come q (open_flights past)) ≡ true)
      still = and_parts _ _ parts.1

      was : (a.status q ≡ status.Resident) ⊎ (a.status q ≡ status.Coming)
      was = by (or_cases (is_resident (a.status q)) (is_coming (a.status q)) parts.0)
        where
          by : (is_resident (a.status q) ≡ true) ⊎ (is_coming (a.status q) ≡ true) → (a.status q ≡ status.Resident) ⊎ (a.status q ≡ status.Coming)
          by (inl is) = inl (is_resident_is (a.status q) is)
          by (inr is) = inr (is_coming_is (a.status q) is)

  pub victim_legal : (but : Option ℕ) (q : ℕ) → victim_gives config past a but ≡ Some q → IsLegal config past a (by_seat seat (what.Turn (proc q) status.Leaving))
  victim_legal but q found = go (earliest (λ (r : ℕ). last_spoken r past) (processes_where config (λ (r : ℕ). not (is_but but r) && (may_leave past a r && is_resident (a.status r))))) refl found
    where
      go : (o : Option ℕ) → earliest (λ (r : ℕ). last_spoken r past) (processes_where config (λ (r : ℕ). not (is_but but r) && (may_leave past a r && is_resident (a.status r)))) ≡ o
          → or_else o (find (λ (r : ℕ). not (is_but but r) && (may_leave past a r && is_coming (a.status r))) (range_with_len 0 (length config.procs))) ≡ Some q
          → IsLegal config past a (by_seat seat (what.Turn (proc q) status.Leaving))
      go None first is =
          let below = found_below (λ (r : ℕ). not (is_but but r) && (may_leave past a r && is_coming (a.status r))) 0 (length config.procs) q is in
          let passes = found_passes (λ (r : ℕ). not (is_but but r) && (may_leave past a r && is_coming (a.status r))) (range_with_len 0 (length config.procs)) q is in
          leaving_legal q (omega (arith, below)) (and_parts (may_leave past a q) (is_coming (a.status q)) (and_parts (not (is_but but q)) _ passes).1).0
      go (Some x) first is =
          let same = same_Some x q is in
          let one = earliest_of (λ (r : ℕ). last_spoken r past) (λ (r : ℕ). ((not (is_but but r) && (may_leave past a r && is_resident (a.status r))) ≡ true) × (r < 0 + length config.procs)) (processes_where config (λ (r : ℕ). not (is_but but r) && (may_leave past a r && is_resident (a.status r)))) q
          (kept_pass (λ (r : ℕ). not (is_but but r) && (may_leave past a r && is_resident (a.status r))) 0 (length config.procs)) (first ∙ ap Some same) in
          let below = one.1 in
          leaving_legal q (omega (arith, below)) (and_parts (may_leave past a q) (is_resident (a.status q)) (and_parts (not (is_but but q)) _ one.0).1).0

  -- a process that is gone comes if none does
  pub coming_legal : (p : ℕ) → p < length config.procs → a.status p ≡ status.Gone → coming_process config a ≡ None → ((q : ℕ) → length config.procs ≤ q → a.status q ≡ status.Resident) → IsLegal config past a (by_seat seat (what.Turn (proc p) status.Coming))
  coming_legal p process gone none absent = record {
    in_turn = free_turn config past seat _ may.free;
    line = record { seat = may.seat_there; what = process };
    row = record { process = process; turned = (gone, λ q coming. no_one q coming) };
  }
    where
      no_one : (q : ℕ) → a.status q ≡ status.Coming → ⊥
      no_one q coming = by (cases_lt q (length config.procs))
        where
          by : (q < length config.procs) ⊎ (length config.procs ≤ q) → ⊥
          by (inl there) = unfound (λ (r : ℕ). is_coming (a.status r)) (range_with_len 0 (length config.procs)) q none (let listed = in_range 0 (length config.procs) q (omega arith) (omega (arith, there)) in omega (arith, listed)) (ap is_coming coming)
          by (inr outside) = let both : status.Resident ≡ status.Coming = sym (absent q outside) ∙ coming in absurd (cc)

  -- and if one does, it leaves first
  pub comer_legal : (q : ℕ) → coming_process config a ≡ Some q → open_flights past ≡ [] → IsLegal config past a (by_seat seat (what.Turn (proc q) status.Leaving))
  comer_legal q found idle =
      let below = found_below (λ (r : ℕ). is_coming (a.status r)) 0 (length config.procs) q found in
      let process : q < length config.procs = omega (arith, below) in
      record {
        in_turn = free_turn config past seat _ may.free;
        line = record { seat = may.seat_there; what = process };
        row = record { process = process; turned = record { was = inr (is_coming_is (a.status q) (found_passes (λ (r : ℕ). is_coming (a.status r)) (range_with_len 0 (length config.procs)) q found)); idle = ap (is_busy q) idle; no_come = ap (has_come q) idle } };
      }
