use Rattle.std.proofs.Common.{◌≡◌, length}
use Rattle.vm_state.specs.History.{pager}
use Rattle.rundown.proofs.SharedPlaces.{of_those_from}
use Rattle.rundown.proofs.places.shared_of_processes.Given as goal

-- no process before this one has a shared page
abbrev pub invariant-loop-q : goal.invariant-loop-q
invariant-loop-q g l = of_those_from (pager l.state) (length l.state.config.procs) l.first ≡ of_those_from (pager l.state) (length l.state.config.procs) l.q
