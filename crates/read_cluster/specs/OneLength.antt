-- A law of the definition of a cluster's length.
use Rattle.std.specs.Prelude.{◌≡◌, ℕ, Bool, List}
use Rattle.vm_types.specs.Cluster.{ClusterLength}

-- a cluster has one length at most
abbrev pub ClusterHasOneLength : Type 0
ClusterHasOneLength = (out : List Bool) (pfc free j k : ℕ) → ClusterLength out pfc free j → ClusterLength out pfc free k → j ≡ k
