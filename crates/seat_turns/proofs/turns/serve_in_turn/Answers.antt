use Rattle.std.proofs.Common.{not, false, Some, ap, refl}
use Rattle.vm_types.specs.declared.reply.Answer.TheVariants as answer
use Rattle.vm_types.specs.declared.service.Request.TheVariants as request
use Rattle.vm_journal.specs.declared.entry.What.TheVariants as what
use Rattle.seat_turns.specs.Steps.{seat_of}
use Rattle.seat_turns.specs.declared.turned.Spoken.TheVariants as spoken
use Rattle.seat_turns.specs.declared.turned.Turned.TheVariants.{Spoke}
use Rattle.seat_turns.proofs.Joined.{free_here, not_running, past_here, process_here, running_here, service_here, short_turned, turned_here}
use Rattle.seat_turns.proofs.LostWork.{lost_service_here, may_fail_service, spoke_turned}
use Rattle.seat_turns.proofs.Worked.{no_lifts}
use Rattle.vm_state.specs.History.{History}
use Rattle.seat_turns.proofs.OwnSteps.{service_failed, was_open}
use Rattle.seat_turns.proofs.Stepped.{stepped_none, stepped_refused, stepped_then}
use Rattle.seat_turns.proofs.turns.serve_in_turn.Goals as goal

pub returns-then-not-has_room-clause-turned : goal.returns-then-not-has_room-clause-turned
returns-then-not-has_room-clause-turned g c =
    short_turned c.args.state.now c.land_out-lost.new.state c.has_room.new.state (seat_of c.args.p) c.land_out-lost.ensures.landed (not c.has_room.result) c.has_room.ensures.same
    (ap not c.if-not-has_room.true) (Some (request.Service c.args.s)) c.land_out-lost.new.carrier c.land_out-lost.ensures.carrier

pub returns-then-not-has_room-clause-begun : goal.returns-then-not-has_room-clause-begun
returns-then-not-has_room-clause-begun g c = λ some. absurd (some (no_lifts (seat_of c.args.p) c.land_out-lost.new.carrier c.land_out-lost.ensures.carrier))

pub is_failed-requires-clause-process : goal.is_failed-requires-clause-process
is_failed-requires-clause-process g c κs within = process_here c.args.state.now c.land_out-lost.new.state c.has_room.new.state c.args.p c.land_out-lost.ensures.landed c.has_room.result c.if-not-has_room.false c.has_room.ensures.same c.requires.process

pub refuse_service-requires-clause-may : goal.refuse_service-requires-clause-may
refuse_service-requires-clause-may g c κs within =
    let lost = c.land_out-lost.ensures.lost (c.is_failed.ensures.lost c.if-is_failed.true) in
    may_fail_service c.has_room.new.state (seat_of c.args.p) c.args.s
    (free_here c.args.state.now c.land_out-lost.new.state c.has_room.new.state c.args.p c.land_out-lost.ensures.landed c.has_room.result c.if-not-has_room.false c.has_room.ensures.same c.requires.process (c.has_room.ensures.room c.if-not-has_room.false))
    (process_here c.args.state.now c.land_out-lost.new.state c.has_room.new.state c.args.p c.land_out-lost.ensures.landed c.has_room.result c.if-not-has_room.false c.has_room.ensures.same c.requires.process)
    c.requires.formed
    (service_here c.args.state.now c.land_out-lost.new.state c.has_room.new.state c.args.p c.land_out-lost.ensures.landed c.has_room.result c.if-not-has_room.false c.has_room.ensures.same c.args.s c.requires.known)
    (lost_service_here c.args.state.now c.land_out-lost.new.state c.has_room.new.state (c.args.p).0 c.args.s (past_here c.args.state.now c.land_out-lost.new.state c.has_room.new.state c.args.p c.land_out-lost.ensures.landed c.has_room.result c.if-not-has_room.false c.has_room.ensures.same) (c.requires.begun lost.1) lost.0)
    (c.is_failed.ensures.waits c.if-is_failed.true)

pub returns-then-is_failed-clause-turned : goal.returns-then-is_failed-clause-turned
returns-then-is_failed-clause-turned g c =
    turned_here c.args.state.now c.land_out-lost.new.state c.has_room.new.state c.args.p c.land_out-lost.ensures.landed c.has_room.result c.if-not-has_room.false c.has_room.ensures.same c.refuse_service.new.state (Some (request.Service c.args.s)) (Spoke (spoken.Answer answer.DiskFault)) c.land_out-lost.new.carrier
    (spoke_turned c.has_room.new.state c.refuse_service.new.state (seat_of c.args.p)
    (free_here c.args.state.now c.land_out-lost.new.state c.has_room.new.state c.args.p c.land_out-lost.ensures.landed c.has_room.result c.if-not-has_room.false c.has_room.ensures.same c.requires.process (c.has_room.ensures.room c.if-not-has_room.false))
    (running_here c.args.state.now c.land_out-lost.new.state c.has_room.new.state c.args.p c.land_out-lost.ensures.landed c.has_room.result c.if-not-has_room.false c.has_room.ensures.same)
    (request.Service c.args.s) (spoken.Answer answer.DiskFault) (what.Served c.args.s answer.DiskFault)
    (tt, tt) (refl, refl) c.refuse_service.ensures c.land_out-lost.new.carrier c.land_out-lost.ensures.carrier)

pub returns-then-is_failed-clause-begun : goal.returns-then-is_failed-clause-begun
returns-then-is_failed-clause-begun g c = λ some. absurd (some (no_lifts (seat_of c.args.p) c.land_out-lost.new.carrier c.land_out-lost.ensures.carrier))

pub returns-then-is_failed-clause-halted : goal.returns-then-is_failed-clause-halted
returns-then-is_failed-clause-halted g c = λ was. absurd (not_running c.args.state.now c.land_out-lost.new.state (seat_of c.args.p) c.land_out-lost.ensures.landed c.has_room.result c.has_room.ensures.halted c.if-not-has_room.false was)

pub serve_next-requires-clause-step : goal.serve_next-requires-clause-step
serve_next-requires-clause-step g c κs within = record {
  process = process_here c.args.state.now c.land_out-lost.new.state c.has_room.new.state c.args.p c.land_out-lost.ensures.landed c.has_room.result c.if-not-has_room.false c.has_room.ensures.same c.requires.process;
  formed = c.requires.formed;
  known = service_here c.args.state.now c.land_out-lost.new.state c.has_room.new.state c.args.p c.land_out-lost.ensures.landed c.has_room.result c.if-not-has_room.false c.has_room.ensures.same c.args.s c.requires.known;
  free = free_here c.args.state.now c.land_out-lost.new.state c.has_room.new.state c.args.p c.land_out-lost.ensures.landed c.has_room.result c.if-not-has_room.false c.has_room.ensures.same c.requires.process (c.has_room.ensures.room c.if-not-has_room.false);
  running = running_here c.args.state.now c.land_out-lost.new.state c.has_room.new.state c.args.p c.land_out-lost.ensures.landed c.has_room.result c.if-not-has_room.false c.has_room.ensures.same;
  carrier = c.land_out-lost.ensures.carrier;
}

pub returns-clause-turned : goal.returns-clause-turned
returns-clause-turned g c = turned_here c.args.state.now c.land_out-lost.new.state c.has_room.new.state c.args.p c.land_out-lost.ensures.landed c.has_room.result c.if-not-has_room.false c.has_room.ensures.same c.serve_next.new.state (Some (request.Service c.args.s)) c.serve_next.result c.serve_next.new.carrier c.serve_next.ensures.turned

pub returns-clause-halted : goal.returns-clause-halted
returns-clause-halted g c = λ was. absurd (not_running c.args.state.now c.land_out-lost.new.state (seat_of c.args.p) c.land_out-lost.ensures.landed c.has_room.result c.has_room.ensures.halted c.if-not-has_room.false was)

pub returns-then-not-has_room-clause-step : goal.returns-then-not-has_room-clause-step
returns-then-not-has_room-clause-step g c =
    stepped_none c.args.state.now c.land_out-lost.new.state c.has_room.new.state (seat_of c.args.p) c.land_out-lost.ensures.landed (ap (λ (x : History). x.config) c.has_room.ensures.same) (ap (λ (x : History). x.past) c.has_room.ensures.same) (Some (request.Service c.args.s))

pub returns-then-is_failed-clause-step : goal.returns-then-is_failed-clause-step
returns-then-is_failed-clause-step g c =
    let lost = c.land_out-lost.ensures.lost (c.is_failed.ensures.lost c.if-is_failed.true) in
    stepped_refused c.args.state.now c.land_out-lost.new.state c.has_room.new.state (seat_of c.args.p) c.land_out-lost.ensures.landed (ap (λ (x : History). x.config) c.has_room.ensures.same) (ap (λ (x : History). x.past) c.has_room.ensures.same) c.refuse_service.new.state (request.Service c.args.s) false lost.0
    (was_open c.args.state.now (seat_of c.args.p) c.args.carrier.now c.requires.out lost.1) (service_failed c.args.s) (ap (λ (x : History). x.past) c.refuse_service.ensures)

pub returns-clause-step : goal.returns-clause-step
returns-clause-step g c =
    stepped_then c.args.state.now c.land_out-lost.new.state c.has_room.new.state (seat_of c.args.p) c.land_out-lost.ensures.landed (ap (λ (x : History). x.config) c.has_room.ensures.same) (ap (λ (x : History). x.past) c.has_room.ensures.same) c.serve_next.new.state (Some (request.Service c.args.s)) c.serve_next.ensures.step
