-- The blocks that were retired are those of the configuration, each once, and each is counted: every transfer of
-- the journal was a call on its block, and no other call was made. This project's own.
use Rattle.std.specs.Prelude.{◌≡◌, Bool, List, count_by}
use Rattle.std.specs.List.{AllByRecursion}
use Rattle.vm_types.specs.BlockView.{Retired}
use Rattle.vm_types.specs.Same.{same_block}
use Rattle.vm_types.specs.Configuration.{IsBlock}
use Rattle.vm_types.specs.declared.names.BlockId.{BlockId}
use Rattle.vm_types.specs.declared.config.Config.{Config}
use Rattle.vm_journal.specs.declared.entry.Entry.{Entry}
use Rattle.pager_model.specs.CountedBlock.{IsCountedBlock}

abbrev pub is_retired : BlockId → Retired → Bool
is_retired b x = same_block b x.block

pub record IsAsked (tells_plan : Bool) (config : Config) (past : List Entry) (retired : List Retired) : Type 0 where
  pub all : (b : BlockId) → IsBlock config b → count_by (is_retired b) retired ≡ 1
  pub only : AllByRecursion (λ (x : Retired). IsBlock config x.block) retired
  pub counted : AllByRecursion (λ (x : Retired). IsCountedBlock tells_plan config past x.block x.seen) retired
