use Rattle.std.proofs.Common.{◌<◌, Some, length, refl, ◌∙◌, sym, subst}
use Rattle.vm_types.specs.declared.service.Request.TheVariants as request
use Rattle.vm_state.specs.History.{History}
use Rattle.seat_laws.proofs.FreeSeats.{idle_seat}
use Rattle.seat_turns.specs.Begun.{IsBegunFor}
use Rattle.seat_turns.specs.Steps.{HasTurned, is_reads, seat_of}
use Rattle.seat_turns.specs.declared.turned.Turned.{Turned}
use Rattle.seat_turns.proofs.Referring.{again_same, answered_turned, more_turned, reads_for, reads_turned, still_free}
use Rattle.seat_turns.proofs.OpenWork.{ended_begun, ended_turned, may_start, worked_at}
use Rattle.seat_turns.proofs.Worked.{no_lifts}
use Rattle.seat_steps.specs.Steps.{refers}
use Rattle.seat_turns.proofs.OwnSteps.{met_step}
use Rattle.seat_turns.proofs.Stepped.{step_of}
use Rattle.seat_turns.proofs.asking.refer_next.Goals as goal

pub advance-requires-clause-idle : goal.advance-requires-clause-idle
advance-requires-clause-idle g c κs within = idle_seat c.args.state.now (seat_of c.args.p) c.requires.step.free c.requires.step.process

pub returns-in-Answered-clause-turned : goal.returns-in-Answered-clause-turned
returns-in-Answered-clause-turned g c =
    answered_turned c.args.state.now c.advance.new.state (seat_of c.args.p) c.args.r c.requires.step.free c.requires.step.running c.args.carrier.now c.advance.new.carrier c.requires.step.carrier c.in-Answered.reply (c.in-Answered.ensures.gives c.requires.step.free.room)

pub returns-in-Answered-clause-begun : goal.returns-in-Answered-clause-begun
returns-in-Answered-clause-begun g c = λ some.
    absurd (some (no_lifts (seat_of c.args.p) c.advance.new.carrier ((c.in-Answered.ensures.gives c.requires.step.free.room).carrier ∙ c.requires.step.carrier)))

pub returns-in-Carry-clause-turned : goal.returns-in-Carry-clause-turned
returns-in-Carry-clause-turned g c =
    reads_turned c.args.state.now c.advance.new.state (seat_of c.args.p) c.args.r c.requires.step.free c.requires.step.running c.args.carrier.now c.advance.new.carrier c.requires.step.carrier (c.in-Carry.ensures.gives c.requires.step.free.room)

pub returns-in-Carry-clause-begun : goal.returns-in-Carry-clause-begun
returns-in-Carry-clause-begun g c = λ some.
    reads_for c.args.state.now c.advance.new.state (seat_of c.args.p) c.args.r c.requires.step.free c.requires.step.running c.args.carrier.now c.advance.new.carrier c.requires.step.carrier (c.in-Carry.ensures.gives c.requires.step.free.room)

pub returns-in-More-clause-turned : goal.returns-in-More-clause-turned
returns-in-More-clause-turned g c =
    more_turned c.args.state.now c.advance.new.state (seat_of c.args.p) c.args.r c.requires.step.free c.requires.step.running c.args.carrier.now c.advance.new.carrier c.requires.step.carrier (c.in-More.ensures.gives c.requires.step.free.room)

pub returns-in-More-clause-begun : goal.returns-in-More-clause-begun
returns-in-More-clause-begun g c = λ some.
    absurd (some (no_lifts (seat_of c.args.p) c.advance.new.carrier ((c.in-More.ensures.gives c.requires.step.free.room).carrier ∙ c.requires.step.carrier)))

pub meet-requires-clause-start : goal.meet-requires-clause-start
meet-requires-clause-start g c κs within =
    may_start c.advance.new.state (seat_of c.args.p) c.advance.new.carrier
    (still_free c.args.state.now c.advance.new.state (seat_of c.args.p)
    (again_same c.args.state.now c.advance.new.state (seat_of c.args.p) c.args.r c.requires.step.free c.requires.step.running c.args.carrier.now c.advance.new.carrier c.requires.step.carrier c.in-Again.why (c.in-Again.ensures.gives c.requires.step.free.room))
    c.requires.step.free)
    ((c.in-Again.ensures.gives c.requires.step.free.room).carrier ∙ c.requires.step.carrier)

pub meet-requires-clause-process : goal.meet-requires-clause-process
meet-requires-clause-process g c κs within =
    subst (λ (s : History). (c.args.p).0 < length s.config.procs)
    (sym (again_same c.args.state.now c.advance.new.state (seat_of c.args.p) c.args.r c.requires.step.free c.requires.step.running c.args.carrier.now c.advance.new.carrier c.requires.step.carrier c.in-Again.why (c.in-Again.ensures.gives c.requires.step.free.room)))
    c.requires.step.process

pub returns-in-Again-clause-turned : goal.returns-in-Again-clause-turned
returns-in-Again-clause-turned g c =
    let gives = c.in-Again.ensures.gives c.requires.step.free.room in
    subst (λ (x : Turned). HasTurned g.B.Block.seen g.B.Block.tells c.args.state.now c.meet.new.state (seat_of c.args.p) (Some (request.Reference c.args.r)) x c.meet.new.carrier) (sym c.worked.ensures)
    (ended_turned c.args.state.now c.advance.new.state c.meet.new.state (seat_of c.args.p) c.requires.step.free c.requires.step.running
    (again_same c.args.state.now c.advance.new.state (seat_of c.args.p) c.args.r c.requires.step.free c.requires.step.running c.args.carrier.now c.advance.new.carrier c.requires.step.carrier c.in-Again.why gives)
    c.meet.result c.advance.new.carrier c.meet.new.carrier (gives.carrier ∙ c.requires.step.carrier)
    (worked_at c.advance.new.state c.meet.new.state (seat_of c.args.p) c.advance.new.carrier c.meet.new.carrier c.meet.result (gives.carrier ∙ c.requires.step.carrier) c.meet.ensures.tried) c.meet.ensures.tried.none (Some (request.Reference c.args.r)))

pub returns-in-Again-clause-begun : goal.returns-in-Again-clause-begun
returns-in-Again-clause-begun g c = λ some.
    let gives = c.in-Again.ensures.gives c.requires.step.free.room in
    subst (λ (x : Turned). IsBegunFor (c.meet.new.state).past (c.args.p).0 (request.Reference c.args.r) (is_reads x)) (sym c.worked.ensures)
    (ended_begun c.args.state.now c.advance.new.state c.meet.new.state (seat_of c.args.p) c.requires.step.free c.requires.step.running
    (again_same c.args.state.now c.advance.new.state (seat_of c.args.p) c.args.r c.requires.step.free c.requires.step.running c.args.carrier.now c.advance.new.carrier c.requires.step.carrier c.in-Again.why gives)
    c.meet.result c.advance.new.carrier c.meet.new.carrier (gives.carrier ∙ c.requires.step.carrier)
    (worked_at c.advance.new.state c.meet.new.state (seat_of c.args.p) c.advance.new.carrier c.meet.new.carrier c.meet.result (gives.carrier ∙ c.requires.step.carrier) c.meet.ensures.tried) c.meet.ensures.tried.none (request.Reference c.args.r) some)

pub returns-in-Answered-clause-step : goal.returns-in-Answered-clause-step
returns-in-Answered-clause-step g c =
    let given = (c.in-Answered.ensures.gives c.requires.step.free.room).given in
    step_of c.args.state.now c.advance.new.state (seat_of c.args.p) (Some (request.Reference c.args.r)) (refers c.args.r given.shown) refl given.history

pub returns-in-Carry-clause-step : goal.returns-in-Carry-clause-step
returns-in-Carry-clause-step g c =
    let given = (c.in-Carry.ensures.gives c.requires.step.free.room).given in
    step_of c.args.state.now c.advance.new.state (seat_of c.args.p) (Some (request.Reference c.args.r)) (refers c.args.r given.shown) refl given.history

pub returns-in-More-clause-step : goal.returns-in-More-clause-step
returns-in-More-clause-step g c =
    let given = (c.in-More.ensures.gives c.requires.step.free.room).given in
    step_of c.args.state.now c.advance.new.state (seat_of c.args.p) (Some (request.Reference c.args.r)) (refers c.args.r given.shown) refl given.history

pub returns-in-Again-clause-step : goal.returns-in-Again-clause-step
returns-in-Again-clause-step g c =
    let gives = c.in-Again.ensures.gives c.requires.step.free.room in
    met_step c.args.state.now c.advance.new.state c.meet.new.state c.advance.new.carrier c.args.p c.reference_needs.result (request.Reference c.args.r)
    (again_same c.args.state.now c.advance.new.state (seat_of c.args.p) c.args.r c.requires.step.free c.requires.step.running c.args.carrier.now c.advance.new.carrier c.requires.step.carrier c.in-Again.why gives)
    (gives.carrier ∙ c.requires.step.carrier) c.meet.ensures.step
    (c.reference_needs.ensures (c.args.state.now).config (c.args.state.now).past (c.args.p).0 c.args.r _ gives.given.answer)
