use Rattle.pager_model.specs.Report.{frame_row}
use Rattle.vm_state.specs.History.{pager}
use Rattle.run_text.specs.Rows.{frame_view}
use Rattle.run_text.proofs.RowsPushed.{row_pushed}
use Rattle.pfn_report.proofs.rows.frame_rows.Goals as goal

pub loop-f-preserved : goal.loop-f-preserved
loop-f-preserved g c =
    row_pushed frame_view (frame_row c.args.state.now.past (pager c.args.state.now)) c.loop-f.rows _ c.loop-f.f c.frame_row.result c.in_ok-push.ensures.ok c.loop-f.invariant c.frame_row.ensures
