use Rattle.history_lock.specs.Passes.{view}
use Rattle.history_lock.specs.Values.{value_of}
use Rattle.vm_actors.proofs.SeenTurns.{adds_none}
use Rattle.thread_tests.proofs.desks.entries.Goals as goal

pub leave-requires-clause-adds : goal.leave-requires-clause-adds
leave-requires-clause-adds g c = adds_none (value_of c.enter-turn.result) (view c.args.desk.now.pass) (view c.enter-turn.new.pass) c.enter-turn.ensures.known c.enter-turn.ensures.seen
