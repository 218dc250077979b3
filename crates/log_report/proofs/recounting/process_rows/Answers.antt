use Rattle.pager_model.specs.Report.{process_row}
use Rattle.run_text.specs.Rows.{process_view}
use Rattle.run_text.proofs.RowsPushed.{row_pushed}
use Rattle.shadow_pager.specs.Shown.{shown}
use Rattle.log_report.proofs.recounting.process_rows.Goals as goal

pub loop-p-preserved : goal.loop-p-preserved
loop-p-preserved c =
    row_pushed process_view (process_row (shown c.args.pager.now).pager) c.loop-p.rows _ c.loop-p.p c.process_row.result c.in_ok-push.ensures.ok c.loop-p.invariant c.process_row.ensures
