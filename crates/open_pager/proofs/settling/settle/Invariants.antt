use Rattle.std.proofs.Common.{◌≡◌, ◌-◌, ◌^◌, length}
use Rattle.carried_landings.specs.Moved.{IsSameBut}
use Rattle.serial_moves.specs.Controls.{control_in}
use Rattle.open_pager.specs.Open.{HasMoved, IsOpen}
use Rattle.open_pager.proofs.settling.settle.Given as goal

-- the policy has moved on from where it was
abbrev pub invariant-moves : goal.invariant-moves
invariant-moves g l = record {
  there : IsOpen l.state (control_in l.control);
  same : IsSameBut l.fn.state l.state;
  moved : HasMoved l.state.config l.fn.state.past (control_in l.fn.at) l.state.past (control_in l.control);
  carriers : l.carriers ≡ l.fn.carriers;
}

-- each move adds an entry
abbrev pub decreases-moves : goal.decreases-moves
decreases-moves g l = 2 ^ 48 - length l.state.past
