use Rattle.vm_state.specs.Based.{base_of}
use Rattle.thread_tests.proofs.Seating.{empty_again, seated_after}
use Rattle.thread_tests.proofs.desks.ask.Goals as goal

pub returns-clause-seated : goal.returns-clause-seated
returns-clause-seated g c =
    let b = base_of c.args._of.now.value in
    let old = c.args.desk.now in
    let made = c.ask.ensures in
    seated_after c.args.lock.now b old.pass c.ask.new.pass old.carrier c.ask.new.carrier c.requires.seated (empty_again c.args.lock.now b old.pass old.carrier c.requires.seated (c.args.task.proc).0 c.requires.seat c.ask.new.carrier made.carrier) made.same made.idle made.numbers made.base made.landed
