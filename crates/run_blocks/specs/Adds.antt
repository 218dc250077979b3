-- Blocks that are made one after another. This project's own.
use Rattle.std.specs.Prelude.{◌≡◌, ℕ, List, ◌++◌, All, map}
use Rattle.vm_types.specs.BlockView.{BlockView, Tells}
use Rattle.vm_types.specs.declared.config.Config.{Config}
use Rattle.vm_types.specs.declared.names.BlockId.{BlockId}
use Rattle.vm_types.specs.declared.names.BlockId.TheVariants as block
use Rattle.pager_model.specs.Maps.{section_bytes}
use Rattle.vm_state.specs.Made.{IsMade}

-- bytes that the block may have at first
abbrev pub AreFirst : Config → BlockId → List ℕ → Type 0
AreFirst config (block.Section s i) bytes = bytes ≡ section_bytes config s.0 i
AreFirst config other bytes = Unit {0}

abbrev pub names_of : {B : Type 0} → List (BlockId × B) → List BlockId
names_of {B} blocks = map (λ (p : BlockId × B). p.0) blocks

module _ {B : Type 0} (seen : B → BlockView) (tells : Tells) where
  -- each is as the configuration wants it made
  abbrev pub AreMade : Config → List (BlockId × B) → Type 0
  AreMade config blocks = All (λ (p : BlockId × B). IsMade tells config p.0 (seen p.1)) blocks

  -- those with these names were made besides
  pub record Adds (config : Config) (ids : List BlockId) (before after : List (BlockId × B)) : Type 0 where
    pub names : names_of after ≡ names_of before ++ ids
    pub made : AreMade config before → AreMade config after
