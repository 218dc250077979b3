use Rattle.std.proofs.Common.{◌≡◌, map}
use Rattle.std.specs.List.{range_with_len}
use Rattle.pager_model.specs.Report.{process_row}
use Rattle.vm_state.specs.History.{pager}
use Rattle.pfn_report.specs.Counts.{AreFrameCounts, pins_below, shares_below}
use Rattle.run_text.specs.Rows.{process_view}
use Rattle.pfn_report.proofs.rows.process_rows.Given as goal

abbrev pub invariant-loop-number : goal.invariant-loop-number
invariant-loop-number g l = record {
  rows : map process_view l.rows ≡ map (process_row (pager l.state)) (range_with_len 0 l.number);
  counts : AreFrameCounts l.state.config.frames (shares_below (pager l.state).valid l.number) l.counts;
  pins : AreFrameCounts l.state.config.frames (pins_below (pager l.state) l.number) l.pins;
}
