use Rattle.std.proofs.Common.{not, Some, ap, refl}
use Rattle.vm_types.specs.declared.reply.Reply.TheVariants as reply
use Rattle.vm_types.specs.declared.reply.Why.TheVariants as why
use Rattle.vm_types.specs.declared.service.Request.TheVariants as request
use Rattle.vm_journal.specs.declared.entry.What.TheVariants as what
use Rattle.seat_turns.specs.Steps.{seat_of}
use Rattle.seat_turns.specs.declared.turned.Spoken.TheVariants as spoken
use Rattle.seat_turns.specs.declared.turned.Turned.TheVariants.{Spoke}
use Rattle.seat_turns.proofs.Joined.{free_here, not_running, past_here, process_here, running_here, short_turned, turned_here}
use Rattle.seat_turns.proofs.LostWork.{lost_reference_here, may_deny, spoke_turned}
use Rattle.seat_turns.proofs.Worked.{no_lifts}
use Rattle.vm_state.specs.History.{History}
use Rattle.seat_turns.proofs.OwnSteps.{read_failed, was_open}
use Rattle.seat_turns.proofs.Stepped.{stepped_none, stepped_refused, stepped_then}
use Rattle.seat_turns.proofs.turns.refer_in_turn.Goals as goal

pub returns-then-not-has_room-clause-turned : goal.returns-then-not-has_room-clause-turned
returns-then-not-has_room-clause-turned g c =
    short_turned c.args.state.now c.land_out-lost.new.state c.has_room.new.state (seat_of c.args.p) c.land_out-lost.ensures.landed (not c.has_room.result) c.has_room.ensures.same
    (ap not c.if-not-has_room.true) (Some (request.Reference c.args.r)) c.land_out-lost.new.carrier c.land_out-lost.ensures.carrier

pub returns-then-not-has_room-clause-begun : goal.returns-then-not-has_room-clause-begun
returns-then-not-has_room-clause-begun g c = λ some. absurd (some (no_lifts (seat_of c.args.p) c.land_out-lost.new.carrier c.land_out-lost.ensures.carrier))

pub is_denied-requires-clause-process : goal.is_denied-requires-clause-process
is_denied-requires-clause-process g c κs within = process_here c.args.state.now c.land_out-lost.new.state c.has_room.new.state c.args.p c.land_out-lost.ensures.landed c.has_room.result c.if-not-has_room.false c.has_room.ensures.same c.requires.process

pub refuse-requires-clause-may : goal.refuse-requires-clause-may
refuse-requires-clause-may g c κs within =
    let lost = c.land_out-lost.ensures.lost (c.is_denied.ensures.lost c.if-is_denied.true) in
    may_deny c.has_room.new.state (seat_of c.args.p) c.args.r
    (free_here c.args.state.now c.land_out-lost.new.state c.has_room.new.state c.args.p c.land_out-lost.ensures.landed c.has_room.result c.if-not-has_room.false c.has_room.ensures.same c.requires.process (c.has_room.ensures.room c.if-not-has_room.false))
    (process_here c.args.state.now c.land_out-lost.new.state c.has_room.new.state c.args.p c.land_out-lost.ensures.landed c.has_room.result c.if-not-has_room.false c.has_room.ensures.same c.requires.process)
    c.requires.formed
    (lost_reference_here c.args.state.now c.land_out-lost.new.state c.has_room.new.state (c.args.p).0 c.args.r c.args.reading (past_here c.args.state.now c.land_out-lost.new.state c.has_room.new.state c.args.p c.land_out-lost.ensures.landed c.has_room.result c.if-not-has_room.false c.has_room.ensures.same) (c.requires.begun lost.1) lost.0)
    (c.is_denied.ensures.unmet c.if-is_denied.true)

pub returns-then-is_denied-clause-turned : goal.returns-then-is_denied-clause-turned
returns-then-is_denied-clause-turned g c =
    turned_here c.args.state.now c.land_out-lost.new.state c.has_room.new.state c.args.p c.land_out-lost.ensures.landed c.has_room.result c.if-not-has_room.false c.has_room.ensures.same c.refuse.new.state (Some (request.Reference c.args.r)) (Spoke (spoken.Reply (reply.Refused why.DiskFault))) c.land_out-lost.new.carrier
    (spoke_turned c.has_room.new.state c.refuse.new.state (seat_of c.args.p)
    (free_here c.args.state.now c.land_out-lost.new.state c.has_room.new.state c.args.p c.land_out-lost.ensures.landed c.has_room.result c.if-not-has_room.false c.has_room.ensures.same c.requires.process (c.has_room.ensures.room c.if-not-has_room.false))
    (running_here c.args.state.now c.land_out-lost.new.state c.has_room.new.state c.args.p c.land_out-lost.ensures.landed c.has_room.result c.if-not-has_room.false c.has_room.ensures.same)
    (request.Reference c.args.r) (spoken.Reply (reply.Refused why.DiskFault)) (what.Denied c.args.r why.DiskFault)
    (tt, tt) (refl, refl) c.refuse.ensures c.land_out-lost.new.carrier c.land_out-lost.ensures.carrier)

pub returns-then-is_denied-clause-begun : goal.returns-then-is_denied-clause-begun
returns-then-is_denied-clause-begun g c = λ some. absurd (some (no_lifts (seat_of c.args.p) c.land_out-lost.new.carrier c.land_out-lost.ensures.carrier))

pub returns-then-is_denied-clause-halted : goal.returns-then-is_denied-clause-halted
returns-then-is_denied-clause-halted g c = λ was. absurd (not_running c.args.state.now c.land_out-lost.new.state (seat_of c.args.p) c.land_out-lost.ensures.landed c.has_room.result c.has_room.ensures.halted c.if-not-has_room.false was)

pub refer_next-requires-clause-step : goal.refer_next-requires-clause-step
refer_next-requires-clause-step g c κs within = record {
  process = process_here c.args.state.now c.land_out-lost.new.state c.has_room.new.state c.args.p c.land_out-lost.ensures.landed c.has_room.result c.if-not-has_room.false c.has_room.ensures.same c.requires.process;
  formed = c.requires.formed;
  known = tt;
  free = free_here c.args.state.now c.land_out-lost.new.state c.has_room.new.state c.args.p c.land_out-lost.ensures.landed c.has_room.result c.if-not-has_room.false c.has_room.ensures.same c.requires.process (c.has_room.ensures.room c.if-not-has_room.false);
  running = running_here c.args.state.now c.land_out-lost.new.state c.has_room.new.state c.args.p c.land_out-lost.ensures.landed c.has_room.result c.if-not-has_room.false c.has_room.ensures.same;
  carrier = c.land_out-lost.ensures.carrier;
}

pub returns-clause-turned : goal.returns-clause-turned
returns-clause-turned g c = turned_here c.args.state.now c.land_out-lost.new.state c.has_room.new.state c.args.p c.land_out-lost.ensures.landed c.has_room.result c.if-not-has_room.false c.has_room.ensures.same c.refer_next.new.state (Some (request.Reference c.args.r)) c.refer_next.result c.refer_next.new.carrier c.refer_next.ensures.turned

pub returns-clause-halted : goal.returns-clause-halted
returns-clause-halted g c = λ was. absurd (not_running c.args.state.now c.land_out-lost.new.state (seat_of c.args.p) c.land_out-lost.ensures.landed c.has_room.result c.has_room.ensures.halted c.if-not-has_room.false was)

pub returns-then-not-has_room-clause-step : goal.returns-then-not-has_room-clause-step
returns-then-not-has_room-clause-step g c =
    stepped_none c.args.state.now c.land_out-lost.new.state c.has_room.new.state (seat_of c.args.p) c.land_out-lost.ensures.landed (ap (λ (x : History). x.config) c.has_room.ensures.same) (ap (λ (x : History). x.past) c.has_room.ensures.same) (Some (request.Reference c.args.r))

pub returns-then-is_denied-clause-step : goal.returns-then-is_denied-clause-step
returns-then-is_denied-clause-step g c =
    let lost = c.land_out-lost.ensures.lost (c.is_denied.ensures.lost c.if-is_denied.true) in
    stepped_refused c.args.state.now c.land_out-lost.new.state c.has_room.new.state (seat_of c.args.p) c.land_out-lost.ensures.landed (ap (λ (x : History). x.config) c.has_room.ensures.same) (ap (λ (x : History). x.past) c.has_room.ensures.same) c.refuse.new.state (request.Reference c.args.r) c.args.reading lost.0
    (was_open c.args.state.now (seat_of c.args.p) c.args.carrier.now c.requires.out lost.1) (read_failed c.args.r c.args.reading) (ap (λ (x : History). x.past) c.refuse.ensures)

pub returns-clause-step : goal.returns-clause-step
returns-clause-step g c =
    stepped_then c.args.state.now c.land_out-lost.new.state c.has_room.new.state (seat_of c.args.p) c.land_out-lost.ensures.landed (ap (λ (x : History). x.config) c.has_room.ensures.same) (ap (λ (x : History). x.past) c.has_room.ensures.same) c.refer_next.new.state (Some (request.Reference c.args.r)) c.refer_next.ensures.step
