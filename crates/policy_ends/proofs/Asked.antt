-- A pager that is asked one request at a time, and the serial policy under the whole body.
use Rattle.std.proofs.Common.{◌≡◌, List, [], ◌∷◌, ◌++◌, append-nil, None, refl, sym, ap, ◌∙◌, subst, arith}
use Rattle.std.proofs.lemmas.List.{append_assoc}
use Rattle.std.proofs.lemmas.Option.{slice_get_past}
use Rattle.vm_types.specs.Configuration.{IsWellFormed}
use Rattle.vm_types.specs.declared.config.Config.{Config}
use Rattle.vm_types.specs.declared.config.Task.{Task}
use Rattle.vm_journal.specs.declared.entry.Entry.{Entry}
use Rattle.pager_model.specs.Run.{IsRun, pager_after}
use Rattle.pager_model.specs.Spoken.{IsRight, spoken}
use Rattle.pager_policy.specs.Moves.{Control, asking, control}
use Rattle.pager_policy.specs.Policy.{task_move}
use Rattle.pager_policy.specs.Serial.{Heard, IsReached, IsSerial, IsSerialTo, Rests}
use Rattle.call_laws.specs.SerialOrder.{all_told}
use Rattle.call_laws.proofs.SerialIsOne.{serial_is_one}
use Rattle.serial_laws.proofs.Kept.{rests_last}
use Rattle.policy_ends.specs.Asked.{AreAsked, IsAskedTo, IsLedTo}
use Rattle.pager_laws.specs.Bodies.{with_body, with_task}
use Rattle.policy_ends.proofs.BodyMoves.{placed}
use Rattle.policy_ends.proofs.MovesStay.{moves_stay}

-- moves behind moves
reached_join : (config : Config) (start : List Entry) (from : Control) (first : List Heard) (middle : List Entry) (place : Control) (later : List Heard) (past : List Entry) (c : Control)
    → IsReached config start from first middle place → IsReached config middle place later past c → IsReached config start from (later ++ first) past c
reached_join config start from first middle place [] past c one other =
    subst (λ (d : Control). IsReached config start from first past d) (sym other.1) (subst (λ (xs : List Entry). IsReached config start from first xs place) (sym other.0) one)
reached_join config start from first middle place (heard ∷ later) past c one other = record {
  earlier_past = other.earlier_past;
  earlier_control = other.earlier_control;
  before = reached_join config start from first middle place later other.earlier_past other.earlier_control one other.before;
  move = other.move;
}

-- the body with a request behind it and the others behind that one
one_more : (config : Config) (task : Task) (tasks : List Task) → (config.body ++ task ∷ []) ++ tasks ≡ config.body ++ task ∷ tasks
one_more config task tasks = append_assoc config.body (task ∷ []) tasks

asked_reached : (config : Config) (tasks : List Task) (start : List Entry) (from : Control) (before : List Heard) (past : List Entry) (c : Control) (told : List Heard) (more : List Entry) (next : Control)
    → IsReached config start from before past c → AreAsked config tasks past c told more next → IsReached (with_body config (config.body ++ tasks)) start from (told ++ before) more next
asked_reached config [] start from before past c told more next reached asked =
    let there : IsReached config start from before more next =
    subst (λ (d : Control). IsReached config start from before more d) (sym asked.1) (subst (λ (xs : List Entry). IsReached config start from before xs c) (sym asked.0) reached) in
    subst (λ (hs : List Heard). IsReached (with_body config (config.body ++ [])) start from (hs ++ before) more next) (sym asked.2)
    (subst (λ (body : List Task). IsReached (with_body config body) start from before more next) (sym (append-nil config.body)) there)
asked_reached config (task ∷ tasks) start from before past c told more next reached asked =
    let longer = with_task config task in
    let step = reached_join longer start from before past c asked.now asked.answered_past asked.answered_control (moves_stay config task start from before past c reached) asked.moves in
    let rest = asked_reached longer tasks start from (asked.now ++ before) asked.answered_past asked.answered_control asked.afterwards more next step asked.later in
    subst (λ (body : List Task). IsReached (with_body config body) start from (told ++ before) more next) (one_more config task tasks)
    (subst (λ (hs : List Heard). IsReached (with_body config (longer.body ++ tasks)) start from hs more next)
    (sym (append_assoc asked.afterwards asked.now before) ∙ ap (λ (hs : List Heard). hs ++ before) (sym asked.all)) rest)

asked_rests : (config : Config) (tasks : List Task) (past : List Entry) (c : Control) (told : List Heard) (more : List Entry) (next : Control)
    → Rests config past c → AreAsked config tasks past c told more next → Rests (with_body config (config.body ++ tasks)) more next
asked_rests config [] past c told more next resting asked =
    subst (λ (body : List Task). Rests (with_body config body) more next) (sym (append-nil config.body))
    (subst (λ (d : Control). Rests config more d) (sym asked.1) (subst (λ (xs : List Entry). Rests config xs c) (sym asked.0) resting))
asked_rests config (task ∷ tasks) past c told more next resting asked =
    subst (λ (body : List Task). Rests (with_body config body) more next) (one_more config task tasks)
    (asked_rests (with_task config task) tasks asked.answered_past asked.answered_control asked.afterwards more next asked.rests asked.later)

-- with no request the policy rests at once
rests_first : (config : Config) → Rests (with_body config []) [] (control asking)
rests_first config = ap (task_move config [] (pager_after config []) None) (slice_get_past [] (spoken []) (omega arith))

pub asked_led : (config : Config) (told : List Heard) (past : List Entry) (c : Control) → IsAskedTo config told past c → IsLedTo config told past c
asked_led config told past c asked = record {
  reached =
      subst (λ (hs : List Heard). IsReached config [] (control asking) hs past c) (append-nil told)
      (asked_reached (with_body config []) config.body [] (control asking) [] [] (control asking) told past c (refl, refl) asked);
  rests = asked_rests (with_body config []) config.body [] (control asking) told past c (rests_first config) asked;
}

pub asked_serial : (config : Config) (told : List Heard) (past : List Entry) (c : Control) → IsWellFormed config → IsRun config past → IsAskedTo config told past c → IsSerial config past
asked_serial config told past c formed run asked =
    let led = asked_led config told past c asked in
    let at = placed config told past c formed led.reached run in
    record {
      control = c;
      reached = record { told = told; reached = led.reached };
      none_left = rests_last config past c at.between at.controlled at.body led.rests;
      rests = led.rests;
    }

pub asked_one : (config : Config) (told : List Heard) (past other : List Entry) (c d : Control) → IsAskedTo config told past c → (serial : IsSerialTo config other d)
    → Rests config other d → IsRight config past → IsRight config other → all_told told ≡ all_told serial.told → past ≡ other
asked_one config told past other c d asked serial ends right also same =
    let led = asked_led config told past c asked in
    serial_is_one config past other c d (record { told = told; reached = led.reached }) serial led.rests ends right also same
