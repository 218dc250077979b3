-- What is seen of a depot. Source: this project's own.
use Rattle.std.specs.Prelude.{ℕ, List, map}
use Rattle.vm_types.specs.BlockView.{BlockView, Retired, Tells}
use Rattle.vm_types.specs.declared.names.BlockId.{BlockId}

pub record DepotView : Type 0 where
  -- whether the bytes, and the plans, of its blocks are known
  pub tells : Tells
  -- what is seen of the blocks that it took back, with their names, the first one first
  pub retired : List Retired
  -- how often it failed
  pub failures : ℕ

-- a block with its name as it was given back
abbrev pub given_back : {B : Type 0} → (B → BlockView) → BlockId × B → Retired
given_back seen p = record { block = p.0; seen = seen p.1 }

-- what is seen of a depot that took these blocks back, and failed so often
abbrev pub depot_view : {B : Type 0} → (B → BlockView) → Tells → List (BlockId × B) → ℕ → DepotView
depot_view seen tells retired failures = record { tells = tells; retired = map (given_back seen) retired; failures = failures }
