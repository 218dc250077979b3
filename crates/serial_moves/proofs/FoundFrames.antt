-- Who finds a frame, and its move.
use Rattle.std.proofs.Common.{◌≡◌, ℕ, suc, ◌+◌, ◌-◌, ◌<◌, ◌≤◌, Bool, true, false, cond, not, List, [], ◌∷◌, Option, Some, None, find, length, nat_eq, nat_lt, refl, sym, ap, ◌∙◌, arith}
use Rattle.std.specs.List.{range_with_len}
use Rattle.std.specs.Option.{option_map}
use Rattle.std.proofs.lemmas.Bool.{and_parts, false≢true, le-ltb, lt-ltb}
use Rattle.vm_types.specs.declared.config.Config.{Config}
use Rattle.vm_types.specs.declared.names.Proc.{Proc}
use Rattle.vm_types.specs.declared.names.ProcStatus.{ProcStatus}
use Rattle.vm_types.specs.declared.names.ProcStatus.TheVariants as status
use Rattle.vm_types.specs.declared.names.Seat.{Seat}
use Rattle.vm_journal.specs.declared.entry.Entry.{Entry}
use Rattle.vm_journal.specs.declared.entry.What.TheVariants as what
use Rattle.vm_types.specs.Status.{is_leaving}
use Rattle.pager_policy.specs.Moves.{Control as ControlIs, Doing as DoingIs, Move, control, makes}
use Rattle.pager_model.specs.Pager.{Pager}
use Rattle.pager_policy.specs.Policy.{Ends as EndsIs, finding_move, leaving_other, other_move, victim_move, writing_move}
use Rattle.pager_policy.specs.Swap.{victim_gives}
use Rattle.pager_rules.proofs.Basics.{find_cons_yes}
use Rattle.pager_rules.proofs.Lists.{found_passes}
use Rattle.call_begins.proofs.Steps.{paid_after}
use Rattle.serial_laws.proofs.Finds.{found_in_range}
use Rattle.serial_laws.proofs.Kept.{turns_legal}
use Rattle.vm_state.specs.History.{History, MayAdd, added, entry_by, pager}
use Rattle.carried_landings.specs.Moved.{IsMoveHere, IsMoved, IsSteady}
use Rattle.carried_landings.proofs.Moving.{makes_move}
use Rattle.serial_moves.specs.Controls.{number_of}
use Rattle.serial_moves.specs.Finders.{finding_by, found_move, is_other_leaving}
use Rattle.serial_moves.specs.declared.finding.Finder.{Finder}
use Rattle.serial_moves.specs.declared.finding.Finder.TheVariants.{Leaving, Victim, Writer}
use Rattle.serial_moves.proofs.AfterAnswers.{enough_room}

-- ---- the first number of a range that passes
pub find_here : (t : ℕ → Bool) (k n : ℕ) → k < n → t k ≡ true → find t (range_with_len k (n - k)) ≡ Some k
find_here t k n less is =
    (let more : n - k ≡ suc (n - (k + 1)) = omega (arith, less) in ap (λ (m : ℕ). find t (range_with_len k m)) more)
    ∙ find_cons_yes t k (range_with_len (k + 1) (n - (k + 1))) is

pub find_end : (t : ℕ → Bool) (k n : ℕ) → n ≤ k → find t (range_with_len k (n - k)) ≡ None
find_end t k n past = let none : n - k ≡ 0 = omega (arith, past) in ap (λ (m : ℕ). find t (range_with_len k m)) none

-- ---- the modified list has pages, or none
pub some_listed : (n m : ℕ) → n ≡ m → 0 < n → nat_lt 0 m ≡ true
some_listed n m same some = lt-ltb 0 m (omega (arith, same, some))

pub none_listed : (n m : ℕ) → n ≡ m → n ≤ 0 → nat_lt 0 m ≡ false
none_listed n m same none = le-ltb 0 m (omega (arith, same, none))

module _ (config : Config) (past : List Entry) (a : Pager) (seat p : ℕ) (ends : EndsIs) (doing : DoingIs) (none : Move) where
  pub by_writer : nat_lt 0 (length a.modified) ≡ true → finding_move config past a seat p ends doing none ≡ found_move config past a seat ends doing none (Some Writer)
  by_writer is = ap (λ (b : Bool). cond b (writing_move config a seat ends (control doing)) (other_move config past a seat p ends doing none (leaving_other config a p))) is

  not_writer : nat_lt 0 (length a.modified) ≡ false → finding_move config past a seat p ends doing none ≡ other_move config past a seat p ends doing none (leaving_other config a p)
  not_writer is = ap (λ (b : Bool). cond b (writing_move config a seat ends (control doing)) (other_move config past a seat p ends doing none (leaving_other config a p))) is

  pub by_leaving : (q : Proc) → nat_lt 0 (length a.modified) ≡ false → option_map number_of (Some q) ≡ leaving_other config a p
      → finding_move config past a seat p ends doing none ≡ found_move config past a seat ends doing none (Some (Leaving q))
  by_leaving q is found = not_writer is ∙ ap (other_move config past a seat p ends doing none) (sym found)

  pub by_victim : (q : Proc) → nat_lt 0 (length a.modified) ≡ false → None ≡ leaving_other config a p → option_map number_of (Some q) ≡ victim_gives config past a (Some p)
      → finding_move config past a seat p ends doing none ≡ found_move config past a seat ends doing none (Some (Victim q))
  by_victim q is nobody found = not_writer is ∙ (ap (other_move config past a seat p ends doing none) (sym nobody) ∙ ap (λ (o : Option ℕ). victim_move seat doing o none) (sym found))

  pub by_nobody : nat_lt 0 (length a.modified) ≡ false → None ≡ leaving_other config a p → None ≡ victim_gives config past a (Some p)
      → finding_move config past a seat p ends doing none ≡ found_move config past a seat ends doing none None
  by_nobody is nobody neither = not_writer is ∙ (ap (other_move config past a seat p ends doing none) (sym nobody) ∙ ap (λ (o : Option ℕ). victim_move seat doing o none) (sym neither))

-- ---- a process that is found leaving is one of the configuration, and leaves
leaving_is : (s : ProcStatus) → is_leaving s ≡ true → s ≡ status.Leaving
leaving_is status.Leaving is = refl
leaving_is status.Resident is = absurd (false≢true is)
leaving_is status.Coming is = absurd (false≢true is)
leaving_is status.Gone is = absurd (false≢true is)

pub leaver_found : (config : Config) (a : Pager) (p : ℕ) (q : Proc) → option_map number_of (Some q) ≡ leaving_other config a p → (q.0 < length config.procs) × (a.status q.0 ≡ status.Leaving)
leaver_found config a p q found =
    let below = found_in_range (is_other_leaving a p) 0 (length config.procs) q.0 (sym found) in
    let passes = found_passes (is_other_leaving a p) (range_with_len 0 (length config.procs)) q.0 (sym found) in
    (omega (arith, below), leaving_is (a.status q.0) (and_parts (is_leaving (a.status q.0)) (not (nat_eq q.0 p)) passes).0)

-- ---- a process that turns is a whole move
module _ (s : History) (seat : Seat) (q : Proc) (to : ProcStatus) (next : ControlIs) where
  pub may_turn : IsSteady s → IsMoveHere s (makes seat.0 (what.Turn q to ∷ []) next) → MayAdd s (entry_by seat (what.Turn q to))
  may_turn steady here = record {
    legal = turns_legal s.config s.past here.at seat.0 q to next steady.between here.fits here.is;
    paid =
        paid_after s.past (entry_by seat (what.Turn q to)) s.spare 1 refl refl
        (let room = enough_room s steady in omega (arith, room));
  }

  pub turn_moved : (tells : Bool) (t : History) → t ≡ added s (entry_by seat (what.Turn q to)) → IsMoved tells s t (makes seat.0 (what.Turn q to ∷ []) next) next
  turn_moved tells t made = makes_move s t seat (what.Turn q to ∷ []) made tells next (tt, tt)

-- ---- the move of a finder by its kind
pub finds_as : (s : History) (seat : ℕ) (ends : EndsIs) (doing : DoingIs) (f h : Finder) → f ≡ h
    → finding_by s.config s.past (pager s) seat ends doing f ≡ finding_by s.config s.past (pager s) seat ends doing h
finds_as s seat ends doing f h is = ap (finding_by s.config s.past (pager s) seat ends doing) is
