use Rattle.std.proofs.Common.{None, refl, ap, ◌∙◌}
use Rattle.vm_types.specs.declared.names.Seat.{Seat}
use Rattle.vm_state.specs.History.{pager}
use Rattle.pager_policy.specs.WriteCluster.{reason_high}
use Rattle.modified_writer.specs.declared.begun.Begin.TheVariants.{Carry}
use Rattle.seat_laws.proofs.FreeSeats.{may_begin}
use Rattle.seat_turns.specs.declared.turned.Turned.TheVariants.{Rests}
use Rattle.seat_turns.proofs.Resting.{enough_written}
use Rattle.seat_turns.proofs.OpenWork.{begin_worked, nothing_begun}
use Rattle.seat_turns.proofs.Worked.{waits_turned, worked_turned}
use Rattle.seat_steps.specs.Steps.{writes}
use Rattle.seat_turns.proofs.Stepped.{step_of}
use Rattle.seat_turns.proofs.idle_work.write_next.Goals as goal

pub begin-requires-clause-idle : goal.begin-requires-clause-idle
begin-requires-clause-idle g c κs within = may_begin c.args.state.now c.args.seat c.requires.free

pub returns-in-Carry-clause-turned : goal.returns-in-Carry-clause-turned
returns-in-Carry-clause-turned g c =
    worked_turned c.args.state.now c.begin.new.state c.args.seat c.requires.free c.requires.running None c.begin.new.carrier
    (begin_worked c.args.state.now c.begin.new.state c.args.seat c.requires.free reason_high c.args.carrier.now c.begin.new.carrier c.requires.carrier Carry (c.in-Carry.ensures.gives c.requires.free.room))

pub returns-in-Nothing-clause-turned : goal.returns-in-Nothing-clause-turned
returns-in-Nothing-clause-turned g c =
    let still = nothing_begun c.args.state.now c.begin.new.state c.args.seat c.requires.free reason_high c.args.carrier.now c.begin.new.carrier c.requires.carrier (c.in-Nothing.ensures.gives c.requires.free.room) in
    waits_turned c.args.state.now c.begin.new.state c.args.seat c.requires.free c.requires.running still.0 None Rests c.begin.new.carrier (still.1 ∙ c.requires.carrier) tt refl tt

pub returns-in-Nothing-clause-rests : goal.returns-in-Nothing-clause-rests
returns-in-Nothing-clause-rests g c = λ is. enough_written (c.args.state.now).config (pager c.args.state.now) (c.in-Nothing.ensures.gives c.requires.free.room).answer

pub returns-in-Carry-clause-step : goal.returns-in-Carry-clause-step
returns-in-Carry-clause-step g c = λ is.
    step_of c.args.state.now c.begin.new.state c.args.seat None (writes reason_high) (refl, ap (λ (x : Seat). x.0) is) (c.in-Carry.ensures.gives c.requires.free.room).history

pub returns-in-Nothing-clause-step : goal.returns-in-Nothing-clause-step
returns-in-Nothing-clause-step g c = λ is.
    step_of c.args.state.now c.begin.new.state c.args.seat None (writes reason_high) (refl, ap (λ (x : Seat). x.0) is) (c.in-Nothing.ensures.gives c.requires.free.room).history
