-- That the entries of a run have lines, as a statement. This project's own.
use Rattle.std.specs.Prelude.{List, length, All}
use Rattle.vm_types.specs.declared.config.Config.{Config}
use Rattle.vm_journal.specs.HasLine.{HasLine}
use Rattle.vm_journal.specs.declared.entry.Entry.{Entry}
use Rattle.pager_model.specs.Run.{IsRun}

-- each entry of a run can be printed with the configuration's processes and sections
abbrev pub RunsHaveLines : Type 0
RunsHaveLines = (config : Config) (past : List Entry) → IsRun config past → All (HasLine (length config.procs) config.sections) past
