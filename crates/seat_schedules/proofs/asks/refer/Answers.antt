use Rattle.seat_laws.proofs.FreeSeats.{idle_seat}
use Rattle.seat_schedules.proofs.ReferenceCalls.{reference_again, reference_answered, reference_carried, reference_more}
use Rattle.seat_schedules.proofs.asks.refer.Goals as goal

pub advance-requires-clause-idle : goal.advance-requires-clause-idle
advance-requires-clause-idle g c κs within = idle_seat c.args.state.now c.args.seat c.requires.free c.requires.process

pub returns-in-Answered : goal.returns-in-Answered
returns-in-Answered g c =
    reference_answered c.args.state.now c.advance.new.state c.args.seat c.args.r c.in-Answered.field-0 c.args.worker.now c.advance.new.carrier c.requires.free c.requires.worker (c.in-Answered.ensures.gives c.requires.free.room)

pub returns-in-Carry : goal.returns-in-Carry
returns-in-Carry g c =
    reference_carried c.args.state.now c.advance.new.state c.args.seat c.args.r c.args.worker.now.carrier c.advance.new.carrier c.requires.free c.requires.formed (c.in-Carry.ensures.gives c.requires.free.room)

pub returns-in-More : goal.returns-in-More
returns-in-More g c =
    reference_more c.args.state.now c.advance.new.state c.args.seat c.args.r c.args.worker.now c.advance.new.carrier c.requires.free c.requires.worker (c.in-More.ensures.gives c.requires.free.room)

pub returns-in-Again : goal.returns-in-Again
returns-in-Again g c =
    reference_again c.args.state.now c.advance.new.state c.args.seat c.args.r c.in-Again.field-0 c.args.worker.now c.advance.new.carrier c.requires.free c.requires.worker (c.in-Again.ensures.gives c.requires.free.room)
