use Rattle.std.proofs.Common.{◌≡◌, ◌≤◌}
use Rattle.std.specs.Prelude.{take, map}
use Rattle.pager_model.specs.Report.{in_state}
use Rattle.run_text.specs.Rows.{frame_view}
use Rattle.run_text.proofs.states.count_in.Given as goal

abbrev pub invariant-loop-row : goal.invariant-loop-row
invariant-loop-row l = (l.count ≡ in_state (map frame_view (take l.row-index l.rows)) l.state) × (l.count ≤ l.row-index)
