-- The rows of a report as contracts see them. This project's own.
use Rattle.pager_model.specs.Report as model
use Rattle.run_text.specs.declared.report.FrameRow.{FrameRow}
use Rattle.run_text.specs.declared.report.ProcessRow.{ProcessRow}

abbrev pub frame_view : FrameRow → model.FrameRow
frame_view row = record { state = row.state; page = row.page; modify = row.modify; refs = row.refs; shares = row.shares }

abbrev pub process_view : ProcessRow → model.ProcessRow
process_view row = record { status = row.status; count = row.count; limit = row.limit }
