use Rattle.fault_core.proofs.ClusterReads.{IsPartRead}
use Rattle.fault_core.proofs.fetches.read_in.Given as goal

-- the places before this one were read
abbrev pub invariant-loop-places : goal.invariant-loop-places
invariant-loop-places g l =
    IsPartRead g.B.Block.seen g.B.Block.tells l.fn.state l.fn.x l.fn.b l.places l.length l.state l.carrier
