use Rattle.pager_model.specs.Report.{frame_row}
use Rattle.run_text.specs.Rows.{frame_view}
use Rattle.run_text.proofs.RowsPushed.{row_pushed}
use Rattle.shadow_pager.specs.Shown.{shown}
use Rattle.log_report.proofs.recounting.frame_rows.Goals as goal

pub loop-f-preserved : goal.loop-f-preserved
loop-f-preserved c =
    row_pushed frame_view (frame_row c.args.past.now.past (shown c.args.pager.now).pager) c.loop-f.rows _ c.loop-f.f c.frame_row.result c.in_ok-push.ensures.ok c.loop-f.invariant c.frame_row.ensures
