-- The blocks that a state gives back at its end. This project's own.
use Rattle.std.specs.Prelude.{◌≡◌, true, List, All}
use Rattle.vm_types.specs.BlockView.{BlockView, Tells}
use Rattle.vm_types.specs.declared.config.Config.{Config}
use Rattle.vm_types.specs.declared.names.BlockId.{BlockId}
use Rattle.vm_journal.specs.declared.entry.Entry.{Entry}
use Rattle.pager_model.specs.CountedBlock.{IsCountedBlock}
use Rattle.pager_model.specs.WrittenBack.{HasFirstBytes, IsWrittenBack}

-- a block by its name and what is seen of it: it is counted; and if the bytes of blocks are known, it is written back, or has
-- its first bytes
pub record IsGivenBack (tells : Tells) (config : Config) (past : List Entry) (b : BlockId) (x : BlockView) : Type 0 where
  pub counted : IsCountedBlock tells.plan config past b x
  pub written : tells.content ≡ true → IsWrittenBack config past (record { block = b; seen = x }) × HasFirstBytes config (record { block = b; seen = x })

module _ {B : Type 0} (seen : B → BlockView) where
  abbrev pub AreGivenBack : Tells → Config → List Entry → List (BlockId × B) → Type 0
  AreGivenBack tells config past blocks =
      All (λ (p : BlockId × B). IsGivenBack tells config past p.0 (seen p.1)) blocks
