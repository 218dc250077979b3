use Rattle.std.proofs.Common.{subst, sym, ◌∙◌}
use Rattle.command_calls.proofs.Calling.{told_alone, said_by}
use Rattle.replay_cli.proofs.Obeying.{no_memory_call, usage_call, many_is_replay, told_by_many}
use Rattle.replay_cli.proofs.Served.{command_run}
use Rattle.replay_cli.specs.Commands.{Asks, obeyed}
use Rattle.replay_cli.specs.declared.ways.Way.TheVariants.{One, Many}
use Rattle.replay_cli.specs.declared.words.Command.TheVariants.{Replay}
use Rattle.replay_cli.proofs.many.run_many_and_tell.Goals as goal

pub returns-in-Err-clause-run : goal.returns-in-Err-clause-run
returns-in-Err-clause-run g c = command_run (told_alone _ (no_memory_call c.in-Err.ensures.memory c.end_with.ensures))

pub returns-in-Err-clause-wrong : goal.returns-in-Err-clause-wrong
returns-in-Err-clause-wrong g c = λ no_four. let told = (no_memory_call {way = Many} {source = g.S.Source.seen c.args.ends.now.source} {depot = g.D.Depot.seen c.args.ends.now.depot} c.in-Err.ensures.memory c.end_with.ensures).told no_four in (told.0, told.1.says, told.2)

pub returns-in-Ok-None-clause-run : goal.returns-in-Ok-None-clause-run
returns-in-Ok-None-clause-run g c =
    let none = rw c.in-Ok-None.field-0-is at c.in-Ok-None.ensures.none in
    command_run (told_alone _ (usage_call (λ command asks offers. none command asks) c.end_with-in-Ok-None.ensures))

pub returns-in-Ok-None-clause-wrong : goal.returns-in-Ok-None-clause-wrong
returns-in-Ok-None-clause-wrong g c = λ no_four.
    let none = rw c.in-Ok-None.field-0-is at c.in-Ok-None.ensures.none in
    let told = (usage_call {way = Many} {source = g.S.Source.seen c.args.ends.now.source} {depot = g.D.Depot.seen c.args.ends.now.depot} (λ command asks offers. none command asks) c.end_with-in-Ok-None.ensures).told no_four in (told.0, told.1.says, told.2)

pub returns-in-One-clause-run : goal.returns-in-One-clause-run
returns-in-One-clause-run g c =
    let asks = rw c.in-Ok-Some.field-0-is at c.in-Ok-Some.ensures.some in
    let offers = sym c.which.ensures ∙ c.in-One.is in
    command_run (told_alone _ (said_by _ (told_by_many _ _ _ c.in-Ok-Some.command asks offers) (c.run_alone.ensures.call _ asks)))

pub returns-in-One-clause-wrong : goal.returns-in-One-clause-wrong
returns-in-One-clause-wrong g c = λ no_four.
    let asks = rw c.in-Ok-Some.field-0-is at c.in-Ok-Some.ensures.some in
    let told = (c.run_alone.ensures.call _ asks).told no_four in (told.0, told.1.says, told.2)

pub returns-in-Many-clause-run : goal.returns-in-Many-clause-run
returns-in-Many-clause-run g c =
    let asks = rw c.in-Ok-Some.field-0-is at c.in-Ok-Some.ensures.some in
    let own = subst (Asks _) (many_is_replay c.in-Ok-Some.command (sym c.in-Many.is ∙ c.which.ensures)) asks in
    command_run (told_alone _ (said_by _ (λ n text told. obeyed Replay n text own tt told) c.replay.ensures.call))

pub returns-in-Many-clause-wrong : goal.returns-in-Many-clause-wrong
returns-in-Many-clause-wrong g c = λ no_four. let told = c.replay.ensures.call.told no_four in (told.0, told.1.says, told.2)
