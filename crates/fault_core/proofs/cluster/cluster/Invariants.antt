use Rattle.std.proofs.Common.{◌-◌}
use Rattle.vm_state.specs.History.{pager}
use Rattle.fault_core.specs.Reads.{reach_of}
use Rattle.fault_core.proofs.Windows.{IsLooking}
use Rattle.fault_core.proofs.cluster.cluster.Given as goal

-- the places before this one were looked at
abbrev pub invariant-loop-more : goal.invariant-loop-more
invariant-loop-more g l = IsLooking l.state.config (pager l.state) (l.x).page l.b l.pages.items l.out.items l.places l.more

abbrev pub decreases-loop-more : goal.decreases-loop-more
decreases-loop-more g l = reach_of l.state.config (pager l.state) (l.x).page - l.places
