-- A request that is put behind the body.
use Rattle.std.proofs.Common.{◌≡◌, ◌+◌, false, List, [], ◌∷◌, ◌++◌, length, sym, ap, ◌∙◌, subst}
use Rattle.vm_types.specs.declared.config.Config.{Config}
use Rattle.vm_types.specs.declared.config.Task.{Task}
use Rattle.vm_journal.specs.declared.entry.Entry.{Entry}
use Rattle.pager_model.specs.Order.{IsAnswered}
use Rattle.pager_policy.specs.Moves.{Control as ControlIs}
use Rattle.pager_policy.specs.Policy.{move_of}
use Rattle.pager_policy.specs.Serial.{Heard, IsReached, IsSerial}
use Rattle.call_laws.proofs.SerialInOrder.{serial_answered}
use Rattle.pager_laws.specs.Bodies.{MayBeAdded, has_rundown, with_task}
use Rattle.policy_ends.proofs.BodyMoves.{placed}
use Rattle.policy_ends.proofs.ControlStays.{control_stays}
use Rattle.policy_ends.proofs.MovesStay.{moves_stay}
use Rattle.pager_laws.proofs.RunsStay.{formed_stays, runs_stay}
use Rattle.serial_laws.specs.Between.{IsBetween}
use Rattle.lift_carriers.specs.CarrierView.{CarrierView}
use Rattle.vm_state.specs.History.{History}
use Rattle.carried_landings.specs.Moved.{IsSameBut}
use Rattle.serial_moves.specs.Carriers.{AreIdle}
use Rattle.serial_moves.specs.Controls.{control_in}
use Rattle.serial_moves.specs.declared.control.Control.{Control}
use Rattle.rundown.proofs.Fronts.{IsFront, front_then, move_front, no_front}
use Rattle.open_pager.specs.Asked.{IsAskedBy, IsSameWith}
use Rattle.open_pager.specs.Open.{HasMoved, IsOpen, IsReady, IsWaiting}
use Rattle.open_pager.proofs.LastAnswers.{added_is_answered}
use Rattle.open_pager.proofs.OpenRuns.{is_serial, open_at}

module _ (s : History) (c : ControlIs) (there : IsOpen s c) where
  -- the rundown hasn't begun
  pub none_yet : has_rundown s.past ≡ false
  none_yet = (placed s.config (there.serial).told s.past c (there.between).formed (there.serial).reached (there.between).run).none

  between_longer : (task : Task) → MayBeAdded s.config task → IsBetween (with_task s.config task) s.past
  between_longer task may = record {
    formed = formed_stays s.config task (there.between).formed may;
    run = runs_stay s.config (s.config.body ++ task ∷ []) s.past none_yet (there.between).run;
    landed = (there.between).landed;
    reused = (there.between).reused;
  }

  -- under the longer body the policy is where it was
  pub open_longer : (t : History) (task : Task) → MayBeAdded s.config task → IsSameWith task s t → t.past ≡ s.past → IsOpen t c
  open_longer t task may same past =
      open_at t (with_task s.config task) s.past c (ap (λ (x : History). x.config) same) past
      (between_longer task may)
      (control_stays s.config task s.past c (there.between).formed (there.between).run there.serial)
      (record { told = (there.serial).told; reached = moves_stay s.config task [] _ (there.serial).told s.past c (there.serial).reached })

-- the moves put entries behind those that there were
pub reached_front : (config : Config) (start : List Entry) (from : ControlIs) (told : List Heard) (past : List Entry) (c : ControlIs) → IsReached config start from told past c → IsFront start past
reached_front config start from [] past c reached = subst (IsFront start) (sym reached.0) (no_front start)
reached_front config start from (heard ∷ told) past c reached =
    front_then start reached.earlier_past past (reached_front config start from told reached.earlier_past reached.earlier_control reached.before)
    (move_front config reached.earlier_past heard past c (move_of config reached.earlier_past reached.earlier_control) reached.move)

-- where it waits every request is answered
answered_there : (s : History) → IsSerial s.config s.past → IsAnswered s.config s.past
answered_there s serial = serial_answered s.config s.past serial.control serial.reached serial.none_left

-- the moves come after the request was added
pub asked_by : (s t u : History) (c next : ControlIs) (task : Task) → IsSameWith task s t → t.past ≡ s.past → IsSameBut t u
    → HasMoved u.config t.past c u.past next → IsWaiting u next → IsAskedBy s c task u next
asked_by s t u c next task added past same moved waits =
    let whole : IsSameWith task s u = same ∙ ap (λ (x : History). record x { past = u.past; spare = u.spare }) added in
    let from_there = subst (λ (p : List Entry). HasMoved u.config p c u.past next) past moved in
    let front = reached_front u.config s.past c from_there.told u.past next from_there.moves in
    record {
      same = whole;
      moved = from_there;
      made = front.rest;
      all = front.is;
      answer = added_is_answered s.config task u.past (subst (λ (k : Config). IsAnswered k u.past) (ap (λ (x : History). x.config) whole) (answered_there u (is_serial u next waits)));
      waits = waits;
    }

-- it waits again after a request
pub ready_again : {B : Type 0} (s u : History) (c next : Control) (task : Task) (carriers others : List (CarrierView B)) → IsReady s c carriers → IsAskedBy s (control_in c) task u (control_in next) → others ≡ carriers → IsReady u next others
ready_again {B} s u c next task carriers others ready asked same = record {
  waits = asked.waits;
  idle = subst (AreIdle u) (sym same) (record { count = (ready.idle).count ∙ ap (λ (x : History). length x.config.procs + 2) (sym asked.same); each = (ready.idle).each });
  keeps = ap (λ (x : History). x.keeps) asked.same ∙ ready.keeps;
}
