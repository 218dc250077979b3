use Rattle.std.proofs.Common.{◌≡◌}
use Rattle.shadow_pager.specs.Shown.{shown}
use Rattle.log_rundown.proofs.SharedPlaces.{of_those_from}
use Rattle.log_rundown.proofs.places.shared_of_processes.Given as goal

-- no process before this one has a shared page
abbrev pub invariant-loop-q : goal.invariant-loop-q
invariant-loop-q l = of_those_from (shown l.pager).pager l.count l.first ≡ of_those_from (shown l.pager).pager l.count l.q
