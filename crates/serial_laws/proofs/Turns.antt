-- Single turns that a move makes.
use Rattle.std.proofs.Common.{refl, ◌≡◌, ℕ, ◌+◌, ◌<◌, ◌≤◌, List, [], ◌∷◌, length, ap, subst, arith}
use Rattle.vm_types.specs.declared.names.Proc.{Proc}
use Rattle.vm_types.specs.declared.names.ProcStatus.{ProcStatus}
use Rattle.vm_types.specs.declared.config.Config.{Config}
use Rattle.vm_journal.specs.declared.entry.Entry.{Entry}
use Rattle.vm_journal.specs.declared.entry.What.{What}
use Rattle.vm_journal.specs.declared.entry.What.TheVariants as what
use Rattle.pager_model.specs.Flights.{is_busy}
use Rattle.pager_policy.specs.Given.{by_seat}
use Rattle.pager_model.specs.Maps.{proc}
use Rattle.pager_policy.specs.Moves.{Control, makes}
use Rattle.pager_model.specs.Run.{pager_after}
use Rattle.pager_model.specs.Step.{IsLegal}
use Rattle.pager_model.specs.Turn.{IsTurned}
use Rattle.call_laws.specs.Ready.{IsFree, MayWork}
use Rattle.call_laws.proofs.FreeTurn.{free_turn}
use Rattle.serial_laws.specs.Between.{IsBetween}
use Rattle.serial_laws.specs.Controlled.{IsControlled}
use Rattle.serial_laws.proofs.Known.{MoveIsKnown}

-- between two moves each seat is free
pub free_seat : (config : Config) (past : List Entry) (seat : ℕ) → IsBetween config past → IsFree past seat
free_seat config past seat between = record { idle = ap (is_busy seat) between.landed; calm = between.reused }

pub may_work : (config : Config) (past : List Entry) (seat : ℕ) → seat ≤ length config.procs + 1 → IsBetween config past → MayWork config past seat
may_work config past seat there between = record { formed = between.formed; run = between.run; free = free_seat config past seat between; seat_there = there }

pub turn_legal : (config : Config) (past : List Entry) (seat q : ℕ) (s : ProcStatus) → IsBetween config past → seat ≤ length config.procs + 1 → q < length config.procs → IsTurned past (pager_after config past) q s
    → IsLegal config past (pager_after config past) (by_seat seat (what.Turn (proc q) s))
turn_legal config past seat q s between there process turned = record {
  in_turn = free_turn config past seat (what.Turn (proc q) s) (free_seat config past seat between);
  line = record { seat = there; what = process };
  row = record { process = process; turned = turned };
}

-- one turn, after which the policy goes on where it fits
pub turn_known : (config : Config) (past : List Entry) (Rest : Type 0) (seat : ℕ) (q : Proc) (s : ProcStatus) (next : Control) → IsLegal config past (pager_after config past) (by_seat seat (what.Turn q s)) → IsControlled config (by_seat seat (what.Turn q s) ∷ past) next
    → MoveIsKnown config past Rest (makes seat (what.Turn q s ∷ []) next)
turn_known config past Rest seat q s next legal controlled = record {
  known = record {
    some = omega arith;
    still = (refl, tt);
    turned = λ r t is. let same : what.Turn q s ≡ what.Turn r t = cc in subst (λ (w : What). IsLegal config past (pager_after config past) (by_seat seat w)) same legal;
    controlled = λ reply. controlled;
  };
}
