-- The entries of a run have lines: each was legal when it was made.
use Rattle.std.proofs.Common.{List, [], ◌∷◌, length}
use Rattle.std.specs.Prelude.{All}
use Rattle.std.specs.List.{AllByRecursion}
use Rattle.std.proofs.lemmas.List.Elements.{All-from_recursion}
use Rattle.vm_types.specs.declared.config.Config.{Config}
use Rattle.vm_journal.specs.HasLine.{HasLine}
use Rattle.vm_journal.specs.declared.entry.Entry.{Entry}
use Rattle.pager_model.specs.Run.{IsRun}

each_line : (config : Config) (past : List Entry) → IsRun config past → AllByRecursion (HasLine (length config.procs) config.sections) past
each_line config [] run = tt
each_line config (e ∷ past) run = (run.1.line, each_line config past run.0)

pub run_lines : (config : Config) (past : List Entry) → IsRun config past → All (HasLine (length config.procs) config.sections) past
run_lines config past run = All-from_recursion (HasLine (length config.procs) config.sections) past (each_line config past run)
