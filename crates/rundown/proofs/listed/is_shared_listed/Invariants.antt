use Rattle.vm_state.specs.History.{pager}
use Rattle.rundown.proofs.SharedListed.{IsLookedAt}
use Rattle.rundown.proofs.listed.is_shared_listed.Given as goal

-- no frame before this one holds a shared page
abbrev pub invariant-loop : goal.invariant-loop
invariant-loop g l = IsLookedAt (pager l.state) l.counter l.at
