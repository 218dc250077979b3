-- A frame is found for a process: by writing, by leaving another process, or by turning one to leaving. Only a
-- process that is alone in memory finds none that way.
use Rattle.std.proofs.Common.{◌≡◌, ℕ, zero, suc, ◌+◌, ◌<◌, ◌&&◌, ◌||◌, Bool, true, false, cond, not, List, [], ◌∷◌, Option, Some, None, length, find, nat_eq, nat_le, nat_lt, refl, sym, ap, arith}
use Rattle.std.specs.List.{range_with_len}
use Rattle.std.proofs.lemmas.Bool.{and_from, and_parts, false≢true, ltb-false, ltb-true, ne_eqb}
use Rattle.std.proofs.lemmas.List.Sums.{length-filter}
use Rattle.std.proofs.lemmas.Option.{none-some, same_Some}
use Rattle.vm_types.specs.declared.names.ProcStatus.{ProcStatus}
use Rattle.vm_types.specs.declared.names.ProcStatus.TheVariants as status
use Rattle.vm_types.specs.declared.config.Config.{Config}
use Rattle.vm_journal.specs.declared.entry.Entry.{Entry}
use Rattle.page_lists.specs.Lists.{count_of}
use Rattle.pager_model.specs.Flights.{is_busy}
use Rattle.vm_types.specs.Status.{is_coming, is_leaving, is_resident}
use Rattle.pager_model.specs.Maps.{proc}
use Rattle.pager_policy.specs.Moves.{Doing, Move, control, while_leaving}
use Rattle.pager_model.specs.Pager.{Pager}
use Rattle.pager_policy.specs.Policy.{Ends, finding_move, leaving_other, other_move, victim_move, writing_move}
use Rattle.pager_model.specs.Run.{pager_after}
use Rattle.pager_policy.specs.Swap.{earlier, earliest, is_but, last_spoken, may_leave, or_else, processes_where, victim_gives}
use Rattle.pager_model.specs.Transfers.{has_come}
use Rattle.pager_rules.proofs.Basics.{at_number_same, find_none_from_count}
use Rattle.pager_rules.proofs.Lists.{found_passes}
use Rattle.pager_laws.proofs.OpeningKept.{in_range}
use Rattle.serial_laws.specs.Alone.{IsAlone}
use Rattle.serial_laws.proofs.AloneInMemory.{alone_finds_a_page}
use Rattle.call_laws.proofs.ServeLegal.{unfound}
use Rattle.call_laws.proofs.TurnsLegal.{victim_legal}
use Rattle.serial_laws.specs.Between.{IsBetween}
use Rattle.serial_laws.proofs.Begins.{writing_known}
use Rattle.serial_laws.proofs.Known.{MoveIsKnown}
use Rattle.serial_laws.proofs.Leaves.{leave_known}
use Rattle.serial_laws.proofs.Turns.{may_work, turn_known}
use Rattle.serial_laws.proofs.Work.{IsWork, calm_quiet, calm_turn}

is_leaving_is : (s : ProcStatus) → is_leaving s ≡ true → s ≡ status.Leaving
is_leaving_is status.Leaving is = refl
is_leaving_is status.Resident is = absurd (false≢true is)
is_leaving_is status.Coming is = absurd (false≢true is)
is_leaving_is status.Gone is = absurd (false≢true is)

-- a number that is found in a range from 0 on is below its end
pub found_in_range : (t : ℕ → Bool) (s n q : ℕ) → find t (range_with_len s n) ≡ Some q → q < s + n
found_in_range t s zero q is = absurd (none-some q is)
found_in_range t s (suc n) q is = go (t s) is (found_in_range t (s + 1) n q)
  where
    go : (b : Bool) → cond b (Some s) (find t (range_with_len (s + 1) n)) ≡ Some q → (find t (range_with_len (s + 1) n) ≡ Some q → q < s + 1 + n) → q < s + suc n
    go true here rest = let same = same_Some s q here in omega (arith, same)
    go false later rest = let below = rest later in omega (arith, below)

-- of no process is there an earliest
earlier_some : (key : ℕ → ℕ) (x : ℕ) (o : Option ℕ) → earlier key x o ≡ None → ⊥
earlier_some key x None is = none-some x (sym is)
earlier_some key x (Some y) is = by (nat_le (key x) (key y)) is
  where
    by : (b : Bool) → cond b (Some x) (Some y) ≡ None → ⊥
    by true is = none-some x (sym is)
    by false is = none-some y (sym is)

none_earliest : (key : ℕ → ℕ) (xs : List ℕ) → earliest key xs ≡ None → length xs ≡ 0
none_earliest key [] is = refl
none_earliest key (x ∷ xs) is = absurd (earlier_some key x (earliest key xs) is)

no_else : (o other : Option ℕ) → or_else o other ≡ None → (o ≡ None) × (other ≡ None)
no_else None other is = (refl, is)
no_else (Some x) other is = absurd (none-some x (sym is))

module _ (config : Config) (past : List Entry) (between : IsBetween config past) where
  abbrev a : Pager
  a = pager_after config past

  listed : (q : ℕ) → q < length config.procs → 0 < count_of (range_with_len 0 (length config.procs)) q
  listed q there = let one = in_range 0 (length config.procs) q (omega arith) (omega (arith, there)) in omega (arith, one)

  -- without an open flight a process that is resident or coming may leave
  leaves : (q : ℕ) → (is_resident (a.status q) || is_coming (a.status q)) ≡ true → may_leave past a q ≡ true
  leaves q here = and_from _ _ here (and_from _ _ (ap (λ flights. not (is_busy q flights)) between.landed) (ap (λ flights. not (has_come q flights)) between.landed))

  module _ (p : ℕ) where
    abbrev resident_test : ℕ → Bool
    resident_test q = not (is_but (Some p) q) && (may_leave past a q && is_resident (a.status q))

    abbrev coming_test : ℕ → Bool
    coming_test q = not (is_but (Some p) q) && (may_leave past a q && is_coming (a.status q))

    other_process : (q : ℕ) → (q ≡ p → ⊥) → not (is_but (Some p) q) ≡ true
    other_process q apart = ap not (ne_eqb p q (λ same. apart (sym same)))

    -- where none is leaving and none may leave, each other process is gone
    pub others_gone : leaving_other config a p ≡ None → victim_gives config past a (Some p) ≡ None → IsAlone config a p
    others_gone no_leaver no_victim q there apart = by (a.status q) refl
      where
        parts : (earliest (λ (r : ℕ). last_spoken r past) (processes_where config resident_test) ≡ None) × (find coming_test (range_with_len 0 (length config.procs)) ≡ None)
        parts = no_else (earliest (λ (r : ℕ). last_spoken r past) (processes_where config resident_test)) (find coming_test (range_with_len 0 (length config.procs))) no_victim

        no_resident : find resident_test (range_with_len 0 (length config.procs)) ≡ None
        no_resident =
            let none = none_earliest (λ (r : ℕ). last_spoken r past) (processes_where config resident_test) parts.0 in
            find_none_from_count resident_test (range_with_len 0 (length config.procs)) (omega (arith, none, length-filter resident_test (range_with_len 0 (length config.procs))))

        by : (s : ProcStatus) → a.status q ≡ s → a.status q ≡ status.Gone
        by status.Gone is = is
        by status.Leaving is = absurd (unfound (λ (r : ℕ). is_leaving (a.status r) && not (nat_eq r p)) (range_with_len 0 (length config.procs)) q no_leaver (listed q there) (and_from _ _ (ap is_leaving is) (ap not (ne_eqb q p apart))))
        by status.Resident is = absurd (unfound resident_test (range_with_len 0 (length config.procs)) q no_resident (listed q there) (and_from _ _ (other_process q apart) (and_from _ _ (leaves q (ap (λ (t : ProcStatus). is_resident t || is_coming t) is)) (ap is_resident is))))
        by status.Coming is = absurd (unfound coming_test (range_with_len 0 (length config.procs)) q parts.1 (listed q there) (and_from _ _ (other_process q apart) (and_from _ _ (leaves q (ap (λ (t : ProcStatus). is_resident t || is_coming t) is)) (ap is_coming is))))

    -- and the process finds a page
    pub not_alone : {X : Type 0} → p < length config.procs → a.free ≡ [] → a.modified ≡ [] → leaving_other config a p ≡ None → victim_gives config past a (Some p) ≡ None → X
    not_alone process no_free no_modified no_leaver no_victim =
        absurd (alone_finds_a_page config past p between.formed between.run process between.landed between.reused (others_gone no_leaver no_victim) no_free no_modified)

    module _ (Rest : Type 0) (seat : ℕ) (ends : Ends) (doing : Doing) (work : IsWork config past seat ends doing) (none : Move) where
      victim_known : (o : Option ℕ) → victim_gives config past a (Some p) ≡ o → (victim_gives config past a (Some p) ≡ None → MoveIsKnown config past Rest none) → MoveIsKnown config past Rest (victim_move seat doing o none)
      victim_known None is otherwise = otherwise is
      victim_known (Some q) is otherwise =
          let legal = victim_legal config past seat (may_work config past seat work.seat_there between) (Some p) q is in
          turn_known config past Rest seat (proc q) status.Leaving (while_leaving doing q) legal
          (work.left _ q (calm_turn config past seat q status.Leaving (λ same. cc)) (legal.row.process, at_number_same a.status q status.Leaving))

      other_known : (o : Option ℕ) → leaving_other config a p ≡ o → (leaving_other config a p ≡ None → victim_gives config past a (Some p) ≡ None → MoveIsKnown config past Rest none) → MoveIsKnown config past Rest (other_move config past a seat p ends doing none o)
      other_known None is otherwise = victim_known (victim_gives config past a (Some p)) refl (otherwise is)
      other_known (Some q) is otherwise =
          let passes = and_parts (is_leaving (a.status q)) (not (nat_eq q p)) (found_passes (λ (r : ℕ). is_leaving (a.status r) && not (nat_eq r p)) (range_with_len 0 (length config.procs)) q is) in
          let below = found_in_range (λ (r : ℕ). is_leaving (a.status r) && not (nat_eq r p)) 0 (length config.procs) q is in
          leave_known config past between Rest seat q ends doing work (omega (arith, below), is_leaving_is (a.status q) passes.0)

      pub finding_known : (a.modified ≡ [] → leaving_other config a p ≡ None → victim_gives config past a (Some p) ≡ None → MoveIsKnown config past Rest none) → MoveIsKnown config past Rest (finding_move config past a seat p ends doing none)
      finding_known otherwise = by (nat_lt 0 (length a.modified)) refl
        where
          empty : (xs : List ℕ) → nat_lt 0 (length xs) ≡ false → xs ≡ []
          empty [] is = refl
          empty (x ∷ xs) is = absurd (let none = ltb-false 0 (length (x ∷ xs)) is in omega (arith, none))

          by : (b : Bool) → nat_lt 0 (length a.modified) ≡ b → MoveIsKnown config past Rest (cond b (writing_move config a seat ends (control doing)) (other_move config past a seat p ends doing none (leaving_other config a p)))
          by true is = writing_known config past between Rest seat ends (control doing) (ltb-true 0 (length a.modified) is) (λ more quiet. work.done more (calm_quiet config past more quiet)) (λ more quiet. work.ended more (calm_quiet config past more quiet))
          by false is = other_known (leaving_other config a p) refl (otherwise (empty a.modified is))
