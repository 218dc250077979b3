use Rattle.command_calls.proofs.Calling.{told_alone}
use Rattle.replay_cli.proofs.Obeying.{no_memory_call, usage_call}
use Rattle.replay_cli.proofs.Served.{command_run}
use Rattle.replay_cli.specs.declared.ways.Way.TheVariants.{One}
use Rattle.replay_cli.proofs.cli.run_one_and_tell.Goals as goal

pub returns-in-Err-clause-run : goal.returns-in-Err-clause-run
returns-in-Err-clause-run g c = command_run (told_alone _ (no_memory_call c.in-Err.ensures.memory c.end_with.ensures))

pub returns-in-Err-clause-wrong : goal.returns-in-Err-clause-wrong
returns-in-Err-clause-wrong g c = λ no_four. let told = (no_memory_call {way = One} {source = g.S.Source.seen c.args.ends.now.source} {depot = g.D.Depot.seen c.args.ends.now.depot} c.in-Err.ensures.memory c.end_with.ensures).told no_four in (told.0, told.1.says, told.2)

pub returns-in-Ok-None-clause-run : goal.returns-in-Ok-None-clause-run
returns-in-Ok-None-clause-run g c =
    let none = rw c.in-Ok-None.field-0-is at c.in-Ok-None.ensures.none in
    command_run (told_alone _ (usage_call (λ command asks offers. none command asks) c.end_with-in-Ok-None.ensures))

pub returns-in-Ok-None-clause-wrong : goal.returns-in-Ok-None-clause-wrong
returns-in-Ok-None-clause-wrong g c = λ no_four.
    let none = rw c.in-Ok-None.field-0-is at c.in-Ok-None.ensures.none in
    let told = (usage_call {way = One} {source = g.S.Source.seen c.args.ends.now.source} {depot = g.D.Depot.seen c.args.ends.now.depot} (λ command asks offers. none command asks) c.end_with-in-Ok-None.ensures).told no_four in (told.0, told.1.says, told.2)

pub returns-in-Ok-Some-clause-run : goal.returns-in-Ok-Some-clause-run
returns-in-Ok-Some-clause-run g c =
    let asks = rw c.in-Ok-Some.field-0-is at c.in-Ok-Some.ensures.some in
    command_run (told_alone _ (c.run_alone.ensures.call _ asks))

pub returns-in-Ok-Some-clause-wrong : goal.returns-in-Ok-Some-clause-wrong
returns-in-Ok-Some-clause-wrong g c = λ no_four.
    let asks = rw c.in-Ok-Some.field-0-is at c.in-Ok-Some.ensures.some in
    let told = (c.run_alone.ensures.call _ asks).told no_four in (told.0, told.1.says, told.2)
