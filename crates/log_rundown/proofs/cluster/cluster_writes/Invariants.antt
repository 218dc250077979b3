use Rattle.shadow_pager.specs.Shown.{shown}
use Rattle.log_rundown.proofs.Clusters.{IsLeft}
use Rattle.log_rundown.proofs.cluster.cluster_writes.Given as goal

-- so many writes are made
abbrev pub invariant-loop-n : goal.invariant-loop-n
invariant-loop-n l = IsLeft l.config (shown l.pager).pager l.writes.items l.last l.n
