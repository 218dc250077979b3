-- The length of a read cluster. Source: Kenah and Bate, "VAX/VMS Internals and Data Structures", paging
-- dynamics, clustered reads; upwards only, and no more than the free frames but one, is this project's
-- own.
use Rattle.std.specs.Prelude.{ℕ, Bool, IsTrue, ◌-◌, ◌≤◌, List, length, max, take, All}

-- a cluster may have k pages: by their places from the faulting page on, the first k are out, and k is
-- at most the page fault cluster and leaves a free frame, but that one page may always be read
pub record IsCluster (out : List Bool) (pfc free k : ℕ) : Type 0 where
  pub within : k ≤ length out
  pub each : All IsTrue (take k out)
  pub few : k ≤ pfc
  pub leaves : k ≤ max 1 (free - 1)

-- the greatest number of pages that a cluster may have
pub record ClusterLength (out : List Bool) (pfc free k : ℕ) : Type 0 where
  pub is : IsCluster out pfc free k
  pub greatest : (j : ℕ) → IsCluster out pfc free j → j ≤ k
