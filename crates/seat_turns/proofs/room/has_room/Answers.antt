use Rattle.std.proofs.Common.{refl, sym, ◌∙◌}
use Rattle.seat_turns.proofs.HasRoom.{halted_here, halted_now, running_here}
use Rattle.seat_turns.proofs.room.has_room.Goals as goal

pub returns-then-halted-clause-same : goal.returns-then-halted-clause-same
returns-then-halted-clause-same g c = halted_here c.args.state.now (sym c.halted.ensures ∙ c.if-halted.true)

pub returns-then-spare-owed-ge64-clause-same : goal.returns-then-spare-owed-ge64-clause-same
returns-then-spare-owed-ge64-clause-same g c = running_here c.args.state.now c.args.state.now refl (sym c.halted.ensures ∙ c.if-halted.false)

pub returns-in-Ok-clause-same : goal.returns-in-Ok-clause-same
returns-in-Ok-clause-same g c = running_here c.args.state.now c.reserve.new.self c.reserve.ensures.same (sym c.halted.ensures ∙ c.if-halted.false)

pub returns-in-Err-clause-same : goal.returns-in-Err-clause-same
returns-in-Err-clause-same g c = halted_now c.args.state.now c.reserve.new.self c.halt.new.self c.in-Err.ensures.err c.halt.ensures
