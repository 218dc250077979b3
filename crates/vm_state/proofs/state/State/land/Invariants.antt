use Rattle.std.proofs.Common.{◌≡◌, reverse}
use Rattle.vm_state.proofs.CarrierLands.{AreLandedTo}
use Rattle.vm_state.proofs.state.State.land.Given as goal

abbrev pub invariant-loop-n : goal.invariant-loop-n
invariant-loop-n g l = record {
  seat : l.carrier.seat ≡ l.initial.carrier.seat;
  landed : AreLandedTo g.B.Block.seen g.B.Block.tells l.seat l.n l.initial.self (reverse l.initial.carrier.lifts) l.self (reverse l.carrier.lifts) l.landed;
}
