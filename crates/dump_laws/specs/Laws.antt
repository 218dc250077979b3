-- That the dump of a state that a run leads to is sound. This project's own.
use Rattle.std.specs.Prelude.{◌≡◌, List, ◌++◌}
use Rattle.vm_types.specs.Configuration.{IsWellFormed}
use Rattle.vm_types.specs.declared.config.Config.{Config}
use Rattle.vm_journal.specs.declared.entry.Entry.{Entry}
use Rattle.pager_model.specs.Run.{IsRun}
use Rattle.run_words.specs.Text.{status_line}
use Rattle.dump_bytes.specs.Bounds.{IsDump}
use Rattle.dump_bytes.specs.Dumped.{Dumped}
use Rattle.dump_lines.specs.ShowText.{count_line, held_lines, show_text}
use Rattle.dump_lines.specs.Wrong.{wrong_count}
use Rattle.dump_laws.specs.DumpAfter.{dump_after}

-- it keeps the bounds, codes and orders of the layout, no kept number differs from its recount, and its text ends by
-- saying so
pub record IsSoundDump (d : Dumped) : Type 0 where
  pub bounds : IsDump d
  pub none_wrong : wrong_count d ≡ 0
  pub ends : show_text d ≡ held_lines d ++ count_line 0 ++ status_line 0

abbrev pub DumpsAreSound : Type 0
DumpsAreSound = (config : Config) (past : List Entry) → IsWellFormed config → IsRun config past → IsSoundDump (dump_after config past)
