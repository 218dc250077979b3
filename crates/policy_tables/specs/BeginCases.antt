-- One write cluster of the modified page writer, as a table. Source: Kenah and Bate, "VAX/VMS Internals and Data
-- Structures", the modified page writer; which frames are taken is this project's own.
use Rattle.std.specs.Prelude.{Bool, false, List, [], ◌∷◌, Option, length, nat_eq, nat_le}
use Rattle.vm_types.specs.declared.config.Config.{Config}
use Rattle.pager_model.specs.Pager.{Pager}
use Rattle.pager_policy.specs.Given.{Given, given}
use Rattle.pager_policy.specs.WriteCluster.{BeginIs, Reason, begin_carry, begin_nothing, reason_high, reason_need}
use Rattle.policy_tables.specs.Rows.{otherwise, when}
use Rattle.policy_tables.specs.Words.{cluster}

-- the cluster is made because the list is long, and the list is no longer than LOLIMIT
abbrev pub is_short_enough : Config → Pager → Reason → Bool
is_short_enough config a reason_high = nat_le (length a.modified) config.params.lolimit
is_short_enough config a reason_need = false

-- for this reason: that the list is long, or that room on it is needed
module _ (config : Config) (a : Pager) (reason : Reason) where
  unfoldable pub begin_cases : List (Option (Given BeginIs))
  begin_cases =
      -- the modified list is empty: none; there is nothing to write
      when (nat_eq (length a.modified) 0) (given [] begin_nothing)
      -- the cluster is made because the list is long, and the list is no longer than LOLIMIT: none; there is nothing
      -- to write
      ∷ when (is_short_enough config a reason) (given [] begin_nothing)
      -- there are frames to write: the OUTs of the list's frames from the first on, as long as their pages' blocks
      -- adjoin, at most WRTCLUSTER (a page without a block takes the lowest free one if it is the cluster's first, and
      -- else the next one if it stands behind a block of the page file and that is free); the writes are carried
      ∷ otherwise (given (cluster config a) begin_carry)
      ∷ []
