use Rattle.std.proofs.Common.{◌<◌, Some, length, refl, sym, subst}
use Rattle.vm_types.specs.declared.service.Request.TheVariants as request
use Rattle.vm_state.specs.History.{History}
use Rattle.seat_laws.proofs.FreeSeats.{idle_seat}
use Rattle.seat_turns.specs.Steps.{HasTurned, seat_of}
use Rattle.seat_turns.specs.declared.turned.Turned.{Turned}
use Rattle.seat_turns.proofs.Referring.{serve_again_same, serve_more_turned, served_turned, still_free}
use Rattle.seat_turns.proofs.OpenWork.{ended_begun_service, ended_turned, may_start, worked_at}
use Rattle.seat_turns.proofs.Worked.{no_lifts}
use Rattle.seat_steps.specs.Steps.{serves}
use Rattle.seat_turns.proofs.OwnSteps.{met_step}
use Rattle.seat_turns.proofs.Stepped.{step_of}
use Rattle.seat_turns.proofs.asking.serve_next.Goals as goal

pub serve-requires-clause-idle : goal.serve-requires-clause-idle
serve-requires-clause-idle g c κs within = idle_seat c.args.state.now (seat_of c.args.p) c.requires.step.free c.requires.step.process

pub returns-in-Answered-clause-turned : goal.returns-in-Answered-clause-turned
returns-in-Answered-clause-turned g c =
    served_turned c.args.state.now c.serve.new.state (seat_of c.args.p) c.args.s c.requires.step.free c.requires.step.running c.args.carrier.now c.requires.step.carrier c.in-Answered.answer (c.in-Answered.ensures.gives c.requires.step.free.room)

pub returns-in-Answered-clause-begun : goal.returns-in-Answered-clause-begun
returns-in-Answered-clause-begun g c = λ some. absurd (some (no_lifts (seat_of c.args.p) c.args.carrier.now c.requires.step.carrier))

pub returns-in-More-clause-turned : goal.returns-in-More-clause-turned
returns-in-More-clause-turned g c =
    serve_more_turned c.args.state.now c.serve.new.state (seat_of c.args.p) c.args.s c.requires.step.free c.requires.step.running c.args.carrier.now c.requires.step.carrier (c.in-More.ensures.gives c.requires.step.free.room)

pub returns-in-More-clause-begun : goal.returns-in-More-clause-begun
returns-in-More-clause-begun g c = λ some. absurd (some (no_lifts (seat_of c.args.p) c.args.carrier.now c.requires.step.carrier))

pub meet-requires-clause-start : goal.meet-requires-clause-start
meet-requires-clause-start g c κs within =
    may_start c.serve.new.state (seat_of c.args.p) c.args.carrier.now
    (still_free c.args.state.now c.serve.new.state (seat_of c.args.p)
    (serve_again_same c.args.state.now c.serve.new.state (seat_of c.args.p) c.args.s c.in-Again.why (c.in-Again.ensures.gives c.requires.step.free.room))
    c.requires.step.free)
    c.requires.step.carrier

pub meet-requires-clause-process : goal.meet-requires-clause-process
meet-requires-clause-process g c κs within =
    subst (λ (s : History). (c.args.p).0 < length s.config.procs)
    (sym (serve_again_same c.args.state.now c.serve.new.state (seat_of c.args.p) c.args.s c.in-Again.why (c.in-Again.ensures.gives c.requires.step.free.room)))
    c.requires.step.process

pub returns-in-Again-clause-turned : goal.returns-in-Again-clause-turned
returns-in-Again-clause-turned g c =
    subst (λ (x : Turned). HasTurned g.B.Block.seen g.B.Block.tells c.args.state.now c.meet.new.state (seat_of c.args.p) (Some (request.Service c.args.s)) x c.meet.new.carrier) (sym c.worked.ensures)
    (ended_turned c.args.state.now c.serve.new.state c.meet.new.state (seat_of c.args.p) c.requires.step.free c.requires.step.running
    (serve_again_same c.args.state.now c.serve.new.state (seat_of c.args.p) c.args.s c.in-Again.why (c.in-Again.ensures.gives c.requires.step.free.room))
    c.meet.result c.args.carrier.now c.meet.new.carrier c.requires.step.carrier
    (worked_at c.serve.new.state c.meet.new.state (seat_of c.args.p) c.args.carrier.now c.meet.new.carrier c.meet.result c.requires.step.carrier c.meet.ensures.tried) c.meet.ensures.tried.none (Some (request.Service c.args.s)))

pub returns-in-Again-clause-begun : goal.returns-in-Again-clause-begun
returns-in-Again-clause-begun g c = λ some.
    ended_begun_service c.args.state.now c.serve.new.state c.meet.new.state (seat_of c.args.p)
    (serve_again_same c.args.state.now c.serve.new.state (seat_of c.args.p) c.args.s c.in-Again.why (c.in-Again.ensures.gives c.requires.step.free.room))
    c.meet.new.carrier (worked_at c.serve.new.state c.meet.new.state (seat_of c.args.p) c.args.carrier.now c.meet.new.carrier c.meet.result c.requires.step.carrier c.meet.ensures.tried) c.args.s some

pub returns-in-Answered-clause-step : goal.returns-in-Answered-clause-step
returns-in-Answered-clause-step g c =
    step_of c.args.state.now c.serve.new.state (seat_of c.args.p) (Some (request.Service c.args.s)) (serves c.args.s) refl (c.in-Answered.ensures.gives c.requires.step.free.room).history

pub returns-in-More-clause-step : goal.returns-in-More-clause-step
returns-in-More-clause-step g c =
    step_of c.args.state.now c.serve.new.state (seat_of c.args.p) (Some (request.Service c.args.s)) (serves c.args.s) refl (c.in-More.ensures.gives c.requires.step.free.room).history

pub returns-in-Again-clause-step : goal.returns-in-Again-clause-step
returns-in-Again-clause-step g c =
    let gives = c.in-Again.ensures.gives c.requires.step.free.room in
    met_step c.args.state.now c.serve.new.state c.meet.new.state c.args.carrier.now c.args.p c.service_needs.result (request.Service c.args.s)
    (serve_again_same c.args.state.now c.serve.new.state (seat_of c.args.p) c.args.s c.in-Again.why gives)
    c.requires.step.carrier c.meet.ensures.step
    (c.service_needs.ensures (c.args.state.now).config (c.args.state.now).past (c.args.p).0 c.args.s _ gives.answer)
