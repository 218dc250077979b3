use Rattle.pager_policy.specs.WriteCluster.{reason_need}
use Rattle.modified_writer.specs.declared.begun.Begin.TheVariants.{Carry}
use Rattle.seat_laws.proofs.FreeSeats.{may_begin}
use Rattle.seat_steps.specs.Steps.{writes}
use Rattle.seat_turns.proofs.Stepped.{step_at}
use Rattle.seat_turns.proofs.OpenWork.{begin_none_tried, begin_tried, empty_at, free_at}
use Rattle.seat_turns.proofs.working.write_for_room.Goals as goal

pub begin-requires-clause-idle : goal.begin-requires-clause-idle
begin-requires-clause-idle g c κs within = may_begin c.args.state.now c.seat.result (free_at c.args.state.now c.args.carrier.now c.requires.start c.seat.result c.seat.ensures)

pub begin-requires-clause-carrier : goal.begin-requires-clause-carrier
begin-requires-clause-carrier g c κs within = empty_at c.args.state.now c.args.carrier.now c.requires.start c.seat.result c.seat.ensures

pub returns-in-Carry-clause-tried : goal.returns-in-Carry-clause-tried
returns-in-Carry-clause-tried g c = begin_tried c.args.state.now c.args.carrier.now c.requires.start c.seat.result c.seat.ensures c.begin.new.state reason_need c.begin.new.carrier Carry (c.in-Carry.ensures.gives c.requires.start.free.room)

pub returns-in-Nothing-clause-tried : goal.returns-in-Nothing-clause-tried
returns-in-Nothing-clause-tried g c = begin_none_tried c.args.state.now c.args.carrier.now c.requires.start c.seat.result c.seat.ensures c.begin.new.state reason_need c.begin.new.carrier (c.in-Nothing.ensures.gives c.requires.start.free.room)

pub returns-in-Carry-clause-step : goal.returns-in-Carry-clause-step
returns-in-Carry-clause-step g c = λ request made_for.
    step_at c.args.state.now c.begin.new.state c.seat.result (c.args.carrier.now).seat c.seat.ensures request (writes reason_need) made_for (c.in-Carry.ensures.gives c.requires.start.free.room).history

pub returns-in-Nothing-clause-step : goal.returns-in-Nothing-clause-step
returns-in-Nothing-clause-step g c = λ request made_for.
    step_at c.args.state.now c.begin.new.state c.seat.result (c.args.carrier.now).seat c.seat.ensures request (writes reason_need) made_for (c.in-Nothing.ensures.gives c.requires.start.free.room).history
