use Rattle.std.proofs.Common.{◌≡◌, map}
use Rattle.std.specs.List.{range_with_len}
use Rattle.pager_model.specs.Report.{process_row}
use Rattle.run_text.specs.Rows.{process_view}
use Rattle.shadow_pager.specs.Shown.{shown}
use Rattle.log_report.proofs.recounting.process_rows.Given as goal

abbrev pub invariant-loop-p : goal.invariant-loop-p
invariant-loop-p l = map process_view l.rows ≡ map (process_row (shown l.pager).pager) (range_with_len 0 l.p)
