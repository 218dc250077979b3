use Rattle.serial_run.proofs.SeatCarriers.{AreFirst}
use Rattle.serial_run.proofs.carriers.all_carriers.Given as goal

-- the carriers of the seats before this one are there
abbrev pub invariant-loop-s : goal.invariant-loop-s
invariant-loop-s g l = AreFirst l.carriers.items l.s
