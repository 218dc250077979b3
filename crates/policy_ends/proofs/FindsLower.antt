-- A frame is found: a cluster is written, another process is left, or one is turned to leaving.
use Rattle.std.proofs.Common.{◌≡◌, ◌⊎◌, inl, inr, ℕ, ◌<◌, ◌&&◌, Bool, true, false, not, cond, List, [], ◌∷◌, Option, Some, None, length, filter, find, nat_eq, nat_le, nat_lt, refl, sym, ap, ◌∙◌, subst, arith}
use Rattle.std.specs.List.{AllByRecursion, range_with_len}
use Rattle.std.proofs.lemmas.Bool.{and_parts, eq-eqb, false≢true}
use Rattle.std.proofs.lemmas.Option.{none-some, same_Some}
use Rattle.vm_types.specs.declared.names.ProcStatus.{ProcStatus}
use Rattle.vm_types.specs.declared.names.ProcStatus.TheVariants as status
use Rattle.vm_types.specs.declared.config.Config.{Config}
use Rattle.vm_journal.specs.declared.entry.Entry.{Entry}
use Rattle.vm_journal.specs.declared.entry.What.TheVariants as what
use Rattle.pager_policy.specs.Given.{by_seat}
use Rattle.vm_types.specs.Status.{is_coming, is_leaving, is_resident}
use Rattle.pager_model.specs.Maps.{proc}
use Rattle.pager_policy.specs.Moves.{Control, Doing, Move, control, while_leaving}
use Rattle.pager_model.specs.Pager.{Pager}
use Rattle.pager_policy.specs.Policy.{Ends, finding_move, leaving_other, other_move, victim_move, writing_move}
use Rattle.pager_model.specs.Run.{IsRun, pager_after}
use Rattle.pager_policy.specs.Swap.{earlier, earliest, is_but, last_spoken, may_leave, or_else, processes_where, victim_gives}
use Rattle.pager_rules.proofs.Lists.{found_passes}
use Rattle.serial_laws.specs.Between.{IsBetween}
use Rattle.serial_laws.proofs.Finds.{found_in_range}
use Rattle.policy_ends.specs.Rank.{presence}
use Rattle.policy_ends.proofs.Numbers.{AreLower}
use Rattle.policy_ends.proofs.LeavesLower.{leave_lowers, turn_lowers, writing_lowers}
use Rattle.policy_ends.proofs.Places.{LowersBy, MoveLowers}
use Rattle.policy_ends.proofs.Singles.{other_turn_lowers}

-- ---- the one that is turned is another process
earliest_of : (key : ℕ → ℕ) (P : ℕ → Type 0) (xs : List ℕ) (q : ℕ) → AllByRecursion P xs → earliest key xs ≡ Some q → P q
earliest_of key P [] q each is = absurd (none-some q is)
earliest_of key P (x ∷ xs) q each is = go (earliest key xs) refl is (earliest_of key P xs q each.1)
  where
    go : (o : Option ℕ) → earliest key xs ≡ o → earlier key x o ≡ Some q → (earliest key xs ≡ Some q → P q) → P q
    go None found now rest = subst P (same_Some x q now) each.0
    go (Some y) found now rest = by (nat_le (key x) (key y)) now
      where
        by : (b : Bool) → cond b (Some x) (Some y) ≡ Some q → P q
        by true here = subst P (same_Some x q here) each.0
        by false later = rest (found ∙ later)

each_passes : (t : ℕ → Bool) (xs : List ℕ) → AllByRecursion (λ (x : ℕ). t x ≡ true) (filter t xs)
each_passes t [] = tt
each_passes t (x ∷ xs) = by (t x) refl (each_passes t xs)
  where
    by : (b : Bool) → t x ≡ b → AllByRecursion (λ (y : ℕ). t y ≡ true) (filter t xs) → AllByRecursion (λ (y : ℕ). t y ≡ true) (cond b (x ∷ filter t xs) (filter t xs))
    by true is rest = (is, rest)
    by false is rest = rest

pub is_leaving_is : (s : ProcStatus) → is_leaving s ≡ true → s ≡ status.Leaving
is_leaving_is status.Leaving is = refl
is_leaving_is status.Resident is = absurd (false≢true is)
is_leaving_is status.Coming is = absurd (false≢true is)
is_leaving_is status.Gone is = absurd (false≢true is)

pub apart_from : (p q : ℕ) → not (nat_eq p q) ≡ true → q ≡ p → ⊥
apart_from p q is same = false≢true (ap not (sym (eq-eqb p q (sym same))) ∙ is)

module _ (config : Config) (past : List Entry) (p : ℕ) where
  abbrev now : Pager
  now = pager_after config past

  abbrev resident_test : ℕ → Bool
  resident_test r = not (is_but (Some p) r) && (may_leave past now r && is_resident (now.status r))

  abbrev coming_test : ℕ → Bool
  coming_test r = not (is_but (Some p) r) && (may_leave past now r && is_coming (now.status r))

  victim_apart : (q : ℕ) → victim_gives config past now (Some p) ≡ Some q → q ≡ p → ⊥
  victim_apart q found = apart_from p q (go (earliest (λ (r : ℕ). last_spoken r past) (processes_where config resident_test)) refl found)
    where
      go : (o : Option ℕ) → earliest (λ (r : ℕ). last_spoken r past) (processes_where config resident_test) ≡ o → or_else o (find coming_test (range_with_len 0 (length config.procs))) ≡ Some q
          → not (nat_eq p q) ≡ true
      go (Some x) is here =
          (and_parts (not (nat_eq p q)) _ (earliest_of (λ (r : ℕ). last_spoken r past) (λ (r : ℕ). resident_test r ≡ true) (processes_where config resident_test) q (each_passes resident_test (range_with_len 0 (length config.procs))) (is ∙ here))).0
      go None is here = (and_parts (not (nat_eq p q)) _ (found_passes coming_test (range_with_len 0 (length config.procs)) q here)).0

-- a process that is turned to leaving was nearer
pub leaving_lowers : (config : Config) (past : List Entry) (seat q p u v : ℕ) → (q ≡ p → ⊥) → IsRun config (by_seat seat (what.Turn (proc q) status.Leaving) ∷ past)
    → AreLower config past (by_seat seat (what.Turn (proc q) status.Leaving) ∷ past) p u v
leaving_lowers config past seat q p u v apart run =
    other_turn_lowers config past (pager_after config past) seat q p u v status.Leaving run.1.row.process apart (by run.1.row.turned.was) (by_seat seat (what.Turn (proc q) status.Leaving) ∷ past)
  where
    by : ((pager_after config past).status q ≡ status.Resident) ⊎ ((pager_after config past).status q ≡ status.Coming) → presence status.Leaving < presence ((pager_after config past).status q)
    by (inl resident) = let two = ap presence resident in omega (arith, two)
    by (inr coming) = let two = ap presence coming in omega (arith, two)

module _ (config : Config) (past : List Entry) (between : IsBetween config past) (c : Control) (p seat : ℕ) (ends : Ends) (doing : Doing) (work : LowersBy config past c p ends doing) (none : Move)
    (otherwise : MoveLowers config past c none) where
  abbrev a : Pager
  a = pager_after config past

  victim_lowers : (o : Option ℕ) → victim_gives config past a (Some p) ≡ o → MoveLowers config past c (victim_move seat doing o none)
  victim_lowers None is = otherwise
  victim_lowers (Some q) is =
      turn_lowers config past between c p seat ends doing work q status.Leaving (while_leaving doing q) refl (λ u v run. leaving_lowers config past seat q p u v (victim_apart config past p q is) run)

  other_lowers : (o : Option ℕ) → leaving_other config a p ≡ o → MoveLowers config past c (other_move config past a seat p ends doing none o)
  other_lowers None is = victim_lowers (victim_gives config past a (Some p)) refl
  other_lowers (Some q) is =
      let passes = and_parts (is_leaving (a.status q)) (not (nat_eq q p)) (found_passes (λ (r : ℕ). is_leaving (a.status r) && not (nat_eq r p)) (range_with_len 0 (length config.procs)) q is) in
      let below = found_in_range (λ (r : ℕ). is_leaving (a.status r) && not (nat_eq r p)) 0 (length config.procs) q is in
      leave_lowers config past between c p seat ends doing work q (omega (arith, below), is_leaving_is (a.status q) passes.0)

  pub finding_lowers : MoveLowers config past c (finding_move config past a seat p ends doing none)
  finding_lowers = by (nat_lt 0 (length a.modified))
    where
      by : (b : Bool) → MoveLowers config past c (cond b (writing_move config a seat ends (control doing)) (other_move config past a seat p ends doing none (leaving_other config a p)))
      by true = writing_lowers config past between c p seat ends doing work (control doing) refl
      by false = other_lowers (leaving_other config a p) refl
