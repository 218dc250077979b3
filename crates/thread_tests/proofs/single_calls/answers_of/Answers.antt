use Rattle.std.proofs.Common.{[], ◌∷◌, ap, arith, subst, sym, ◌∙◌}
use Rattle.history_lock.specs.Views.{unseen}
use Rattle.vm_types.specs.declared.names.Seat.{Seat}
use Rattle.vm_state.specs.Based.{base_of}
use Rattle.vm_state.specs.History.{History}
use Rattle.vm_actors.specs.Doings.{MayAsk}
use Rattle.thread_tests.proofs.Seating.{may_ask, task_of}
use Rattle.thread_tests.proofs.single_calls.answers_of.Goals as goal

pub last_desk-requires-clause-fresh : goal.last_desk-requires-clause-fresh
last_desk-requires-clause-fresh g c κs within = λ i pass at. record {
  own = c.in_ok-lock.ensures.own i pass at;
  idle = c.in_ok-lock.ensures.idle i pass at;
  views = c.in_ok-lock.ensures.view i pass at ∙ ap (λ (s : History). unseen (i ∷ []) (base_of s)) (sym c.of-of.ensures);
}

pub ask-referred-requires-clause-may : goal.ask-referred-requires-clause-may
ask-referred-requires-clause-may g c κs within =
    subst (λ (s : History). MayAsk c.task_at.result.proc c.task_at.result.request s.config) (sym c.of-of.ensures)
    (may_ask c.args.state.config 1 c.task_at.result (sym c.requires.one_process) (task_of c.args.state.config 1 c.args.body.now 0 c.task_at.result c.requires.body c.task_at.ensures))

pub ask-referred-requires-clause-seat : goal.ask-referred-requires-clause-seat
ask-referred-requires-clause-seat g c κs within =
    let count = c.in_ok-lock.ensures.count in
    let one = c.last_desk.ensures.left in
    let two = c.last_desk-2.ensures.left in
    let three = c.last_desk-3.ensures.left in
    let seat = c.in_ok-a.ensures.seat in
    let under = (task_of c.args.state.config 1 c.args.body.now 0 c.task_at.result c.requires.body c.task_at.ensures).proc in
    omega (arith, count, one, two, three, seat, under)

pub ask-served-requires-clause-may : goal.ask-served-requires-clause-may
ask-served-requires-clause-may g c κs within =
    subst (λ (s : History). MayAsk c.task_at-2.result.proc c.task_at-2.result.request s.config) (sym c.of-of.ensures)
    (may_ask c.args.state.config 1 c.task_at-2.result (sym c.requires.one_process) (task_of c.args.state.config 1 c.args.body.now 1 c.task_at-2.result c.requires.body c.task_at-2.ensures))

pub ask-served-requires-clause-seat : goal.ask-served-requires-clause-seat
ask-served-requires-clause-seat g c κs within =
    let count = c.in_ok-lock.ensures.count in
    let one = c.last_desk.ensures.left in
    let two = c.last_desk-2.ensures.left in
    let three = c.last_desk-3.ensures.left in
    let seat = c.in_ok-a.ensures.seat in
    let same = ap (λ (s : Seat). s.0) c.ask-referred.ensures.seat in
    let under = (task_of c.args.state.config 1 c.args.body.now 1 c.task_at-2.result c.requires.body c.task_at-2.ensures).proc in
    omega (arith, count, one, two, three, seat, same, under)
