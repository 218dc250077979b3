use Rattle.std.proofs.Common.{None, ap, ◌∙◌, sym, subst}
use Rattle.vm_types.specs.declared.names.Seat.{Seat}
use Rattle.vm_state.specs.Based.{base_of}
use Rattle.vm_state.specs.History.{History}
use Rattle.carried_landings.specs.Outside.{AreOut}
use Rattle.seat_turns.specs.Steps.{HasTurned, swapper_seat}
use Rattle.seat_turns.proofs.Joined.{respared_turned}
use Rattle.seat_steps.specs.Turns.{HasStepped}
use Rattle.seat_turns.proofs.OwnSteps.{respared_stepped}
use Rattle.seat_turns.proofs.idle_work.swap_in_turn.Goals as goal

pub land_idle-requires-clause-out : goal.land_idle-requires-clause-out
land_idle-requires-clause-out g c κs within =
    subst (λ (x : Seat). AreOut g.B.Block.seen g.B.Block.tells (base_of c.args.state.now) (c.args.state.now).past x c.args.carrier.now) (sym c.swapper-seat.ensures) c.requires.out

pub returns-in-Some-clause-turned : goal.returns-in-Some-clause-turned
returns-in-Some-clause-turned g c =
    subst (λ (x : Seat). HasTurned g.B.Block.seen g.B.Block.tells c.args.state.now c.land_idle.new.state x None c.in-Some.turned c.land_idle.new.carrier) c.swapper-seat.ensures c.in-Some.ensures.turned

pub swap_next-requires-clause-running : goal.swap_next-requires-clause-running
swap_next-requires-clause-running g c κs within = ap (λ (x : History). x.halted) (c.land_idle.ensures.same c.in-None.is)

pub returns-in-None-clause-turned : goal.returns-in-None-clause-turned
returns-in-None-clause-turned g c =
    subst (λ (x : Seat). HasTurned g.B.Block.seen g.B.Block.tells c.args.state.now c.swap_next.new.state x None c.swap_next.result c.swap_next.new.carrier) c.swapper-seat.ensures
    (respared_turned c.args.state.now c.land_idle.new.state c.swap_next.new.state c.swapper-seat.result (c.land_idle.ensures.same c.in-None.is) None c.swap_next.result c.swap_next.new.carrier c.swap_next.ensures.turned)

pub returns-in-Some-clause-step : goal.returns-in-Some-clause-step
returns-in-Some-clause-step g c =
    subst (λ (x : Seat). HasStepped (c.args.state.now).config (c.args.state.now).past (c.land_idle.new.state).past x.0 None) c.swapper-seat.ensures c.in-Some.ensures.step

pub returns-in-None-clause-step : goal.returns-in-None-clause-step
returns-in-None-clause-step g c =
    let same = c.land_idle.ensures.same c.in-None.is in
    subst (λ (x : Seat). HasStepped (c.args.state.now).config (c.args.state.now).past (c.swap_next.new.state).past x.0 None) c.swapper-seat.ensures
    (respared_stepped c.args.state.now c.land_idle.new.state c.swap_next.new.state c.swapper-seat.result same None (c.land_idle.ensures.free c.in-None.is)
    (c.swap_next.ensures.step (c.swapper-seat.ensures ∙ ap (λ (x : History). swapper_seat x.config) (sym same))))
