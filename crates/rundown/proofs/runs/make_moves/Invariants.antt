use Rattle.std.proofs.Common.{◌≡◌, ◌-◌, ◌^◌, length}
use Rattle.call_begins.specs.MayBegin.{empty}
use Rattle.rundown.specs.Cleanings.{control_at}
use Rattle.rundown.specs.Cleans.{writer_seat}
use Rattle.rundown.proofs.RunningDown.{IsRunningDown}
use Rattle.rundown.proofs.runs.make_moves.Given as goal

-- the moves so far are those of the rundown
abbrev pub invariant-moves : goal.invariant-moves
invariant-moves g l = record {
  down : IsRunningDown g.B.Block.tells.content l.fn.state l.state (control_at l.at);
  carrier : l.carrier ≡ empty (writer_seat l.fn.state);
}

-- each move adds an entry
abbrev pub decreases-moves : goal.decreases-moves
decreases-moves g l = 2 ^ 48 - length l.state.past
