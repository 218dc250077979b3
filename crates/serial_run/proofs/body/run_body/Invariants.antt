use Rattle.std.proofs.Common.{◌≡◌, ◌-◌, ◌^◌, length}
use Rattle.serial_moves.specs.Controls.{control_in}
use Rattle.serial_run.proofs.BodyRuns.{IsOnItsWay}
use Rattle.serial_run.proofs.body.run_body.Given as goal

-- the moves so far are those of the body
abbrev pub invariant-moves : goal.invariant-moves
invariant-moves g l = record {
  way : IsOnItsWay g.B.Block.tells.content l.fn.state l.state (control_in l.control);
  carriers : l.carriers ≡ l.fn.carriers;
}

-- each move adds an entry
abbrev pub decreases-moves : goal.decreases-moves
decreases-moves g l = 2 ^ 48 - length l.state.past
