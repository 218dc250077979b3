use Rattle.std.proofs.Common.{◌≡◌, map}
use Rattle.std.specs.List.{range_with_len}
use Rattle.pager_model.specs.Report.{frame_row}
use Rattle.run_text.specs.Rows.{frame_view}
use Rattle.shadow_pager.specs.Shown.{shown}
use Rattle.log_report.proofs.recounting.frame_rows.Given as goal

abbrev pub invariant-loop-f : goal.invariant-loop-f
invariant-loop-f l = map frame_view l.rows ≡ map (frame_row l.past.past (shown l.pager).pager) (range_with_len 0 l.f)
