-- The writes of a cluster. This project's own.
use Rattle.std.specs.Prelude.{List, None}
use Rattle.vm_journal.specs.declared.entry.What.{What}
use Rattle.pager_policy.specs.WriteCluster.{writes_from}
use Rattle.vm_state.specs.History.{History, pager}

-- of the one that begins with the modified list's head
abbrev pub cluster_writes : History → List What
cluster_writes s = writes_from s.config (pager s) s.config.params.wrtcluster None (pager s).modified
