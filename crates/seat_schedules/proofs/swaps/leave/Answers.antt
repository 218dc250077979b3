use Rattle.vm_swapper.specs.declared.swap.Swap.TheVariants.{Again, Carry, More, Settled}
use Rattle.seat_schedules.proofs.OtherCalls.{leave_worked}
use Rattle.seat_laws.proofs.FreeSeats.{may_begin}
use Rattle.seat_schedules.proofs.swaps.leave.Goals as goal

pub leave_some-requires-clause-idle : goal.leave_some-requires-clause-idle
leave_some-requires-clause-idle g c κs within = may_begin c.args.state.now c.args.seat c.requires.free

pub returns-in-Carry : goal.returns-in-Carry
returns-in-Carry g c =
    leave_worked c.args.state.now c.leave_some.new.state c.args.seat (c.args.p).0 Carry c.args.worker.now c.leave_some.new.carrier c.requires.free c.requires.worker (c.in-Carry.ensures.gives c.requires.free.room)

pub returns-in-More : goal.returns-in-More
returns-in-More g c =
    leave_worked c.args.state.now c.leave_some.new.state c.args.seat (c.args.p).0 More c.args.worker.now c.leave_some.new.carrier c.requires.free c.requires.worker (c.in-More.ensures.gives c.requires.free.room)

pub returns-in-Settled : goal.returns-in-Settled
returns-in-Settled g c =
    leave_worked c.args.state.now c.leave_some.new.state c.args.seat (c.args.p).0 Settled c.args.worker.now c.leave_some.new.carrier c.requires.free c.requires.worker (c.in-Settled.ensures.gives c.requires.free.room)

pub returns-in-Again : goal.returns-in-Again
returns-in-Again g c =
    leave_worked c.args.state.now c.leave_some.new.state c.args.seat (c.args.p).0 (Again c.in-Again.field-0) c.args.worker.now c.leave_some.new.carrier c.requires.free c.requires.worker (c.in-Again.ensures.gives c.requires.free.room)
