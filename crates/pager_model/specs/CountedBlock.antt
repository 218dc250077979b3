-- What a journal counts of a block as it is seen, and which calls the configuration makes it fail at. This
-- project's own.
use Rattle.std.specs.Prelude.{◌≡◌, ℕ, Bool, ◌+◌, List, [], Option, Some, None, find, if◌then◌else◌}
use Rattle.vm_types.specs.BlockView.{BlockView}
use Rattle.vm_types.specs.Same.{same_block}
use Rattle.vm_types.specs.declared.names.BlockId.{BlockId}
use Rattle.vm_types.specs.declared.config.Config.{Config}
use Rattle.vm_types.specs.declared.config.Fails.{Fails}
use Rattle.vm_journal.specs.declared.entry.Entry.{Entry}
use Rattle.pager_model.specs.Counted.{Counts, counts_of, last_count}

abbrev pub calls_of : Option Fails → List ℕ
calls_of None = []
calls_of (Some fails) = fails.calls

-- the numbers of the calls at which the block is to fail, none where the configuration names none
abbrev pub plan_of : Config → BlockId → List ℕ
plan_of config b = calls_of (find (λ (fails : Fails). same_block b fails.block) config.fails)

abbrev pub told_plan : Config → Bool → BlockId → Option (List ℕ)
told_plan config tells_plan b = if tells_plan then Some (plan_of config b) else None

-- the block's own counts are these, but for calls that are still to come
pub record HasCounts (x : BlockView) (counts : Counts) (reads_left writes_left : ℕ) : Type 0 where
  pub reads : x.reads + reads_left ≡ counts.reads
  pub writes : x.writes + writes_left ≡ counts.writes

-- a block is counted in a past where its reads and writes are the entries that name it, its failures those
-- that its last failed flight left, and its plan, where it is known, that of the configuration
pub record IsCountedBlock (tells_plan : Bool) (config : Config) (past : List Entry) (b : BlockId) (x : BlockView) : Type 0 where
  pub counts : HasCounts x (counts_of b past) 0 0
  pub faults : x.faults ≡ last_count b past
  pub plan : x.plan ≡ told_plan config tells_plan b
