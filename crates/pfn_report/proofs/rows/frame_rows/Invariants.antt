use Rattle.std.proofs.Common.{◌≡◌, map}
use Rattle.std.specs.List.{range_with_len}
use Rattle.pager_model.specs.Report.{frame_row}
use Rattle.vm_state.specs.History.{pager}
use Rattle.run_text.specs.Rows.{frame_view}
use Rattle.pfn_report.proofs.rows.frame_rows.Given as goal

abbrev pub invariant-loop-f : goal.invariant-loop-f
invariant-loop-f g l = map frame_view l.rows ≡ map (frame_row l.state.past (pager l.state)) (range_with_len 0 l.f)
