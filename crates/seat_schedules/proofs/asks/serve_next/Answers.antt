use Rattle.seat_schedules.proofs.OtherCalls.{service_worked}
use Rattle.seat_laws.proofs.FreeSeats.{idle_seat}
use Rattle.seat_schedules.proofs.asks.serve_next.Goals as goal

pub serve-requires-clause-idle : goal.serve-requires-clause-idle
serve-requires-clause-idle g c κs within = idle_seat c.args.state.now c.args.seat c.requires.free c.requires.process

pub returns-in-Answered : goal.returns-in-Answered
returns-in-Answered g c = service_worked c.args.state.now c.serve.new.state c.args.seat c.args.s _ c.requires.free (c.in-Answered.ensures.gives c.requires.free.room)

pub returns-in-More : goal.returns-in-More
returns-in-More g c = service_worked c.args.state.now c.serve.new.state c.args.seat c.args.s _ c.requires.free (c.in-More.ensures.gives c.requires.free.room)

pub returns-in-Again : goal.returns-in-Again
returns-in-Again g c = service_worked c.args.state.now c.serve.new.state c.args.seat c.args.s _ c.requires.free (c.in-Again.ensures.gives c.requires.free.room)
