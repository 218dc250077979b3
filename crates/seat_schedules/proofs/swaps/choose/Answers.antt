use Rattle.seat_schedules.proofs.OtherCalls.{may_turn, turn_worked}
use Rattle.seat_schedules.proofs.swaps.choose.Goals as goal

pub turn-requires-after_bounds : goal.turn-requires-after_bounds
turn-requires-after_bounds g c κs within =
    may_turn c.args.state.now c.args.seat c.in-Some.q c.turns_are_legal.ensures.victim c.requires.free c.run_law.ensures.formed c.run_law.ensures.run c.in-Some.ensures

pub returns-in-Some : goal.returns-in-Some
returns-in-Some g c = turn_worked c.args.state.now c.turn.new.self c.args.seat c.in-Some.q c.requires.free c.turn.ensures
