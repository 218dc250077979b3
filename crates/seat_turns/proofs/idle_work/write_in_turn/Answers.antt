use Rattle.std.proofs.Common.{None, ap, ◌∙◌, sym, subst}
use Rattle.vm_types.specs.declared.names.Seat.{Seat}
use Rattle.vm_state.specs.Based.{base_of}
use Rattle.vm_state.specs.History.{History}
use Rattle.carried_landings.specs.Outside.{AreOut}
use Rattle.seat_turns.specs.Steps.{HasTurned, writer_seat}
use Rattle.seat_turns.proofs.Joined.{respared_turned}
use Rattle.seat_steps.specs.Turns.{HasStepped}
use Rattle.seat_turns.proofs.OwnSteps.{respared_stepped}
use Rattle.seat_turns.proofs.idle_work.write_in_turn.Goals as goal

pub land_idle-requires-clause-out : goal.land_idle-requires-clause-out
land_idle-requires-clause-out g c κs within =
    subst (λ (x : Seat). AreOut g.B.Block.seen g.B.Block.tells (base_of c.args.state.now) (c.args.state.now).past x c.args.carrier.now) (sym c.writer-seat.ensures) c.requires.out

pub returns-in-Some-clause-turned : goal.returns-in-Some-clause-turned
returns-in-Some-clause-turned g c =
    subst (λ (x : Seat). HasTurned g.B.Block.seen g.B.Block.tells c.args.state.now c.land_idle.new.state x None c.in-Some.turned c.land_idle.new.carrier) c.writer-seat.ensures c.in-Some.ensures.turned

pub write_next-requires-clause-running : goal.write_next-requires-clause-running
write_next-requires-clause-running g c κs within = ap (λ (x : History). x.halted) (c.land_idle.ensures.same c.in-None.is)

pub returns-in-None-clause-turned : goal.returns-in-None-clause-turned
returns-in-None-clause-turned g c =
    subst (λ (x : Seat). HasTurned g.B.Block.seen g.B.Block.tells c.args.state.now c.write_next.new.state x None c.write_next.result c.write_next.new.carrier) c.writer-seat.ensures
    (respared_turned c.args.state.now c.land_idle.new.state c.write_next.new.state c.writer-seat.result (c.land_idle.ensures.same c.in-None.is) None c.write_next.result c.write_next.new.carrier c.write_next.ensures.turned)

pub returns-in-Some-clause-step : goal.returns-in-Some-clause-step
returns-in-Some-clause-step g c =
    subst (λ (x : Seat). HasStepped (c.args.state.now).config (c.args.state.now).past (c.land_idle.new.state).past x.0 None) c.writer-seat.ensures c.in-Some.ensures.step

pub returns-in-None-clause-step : goal.returns-in-None-clause-step
returns-in-None-clause-step g c =
    let same = c.land_idle.ensures.same c.in-None.is in
    subst (λ (x : Seat). HasStepped (c.args.state.now).config (c.args.state.now).past (c.write_next.new.state).past x.0 None) c.writer-seat.ensures
    (respared_stepped c.args.state.now c.land_idle.new.state c.write_next.new.state c.writer-seat.result same None (c.land_idle.ensures.free c.in-None.is)
    (c.write_next.ensures.step (c.writer-seat.ensures ∙ ap (λ (x : History). writer_seat x.config) (sym same))))
