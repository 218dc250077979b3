-- A buffer or a block goes away, comes back or changes, and the others stay. This project's own.
use Rattle.std.specs.Prelude.{◌≡◌, ℕ, List, Option}
use Rattle.vm_types.specs.BlockView.{BlockView}
use Rattle.vm_types.specs.declared.names.BlockId.{BlockId}

-- the buffer of this frame is that now, or is away
pub record PutsBuffer (f : ℕ) (o : Option (List ℕ)) (old new : ℕ → Option (List ℕ)) : Type 0 where
  pub here : new f ≡ o
  pub others : (g : ℕ) → (f ≡ g → ⊥) → new g ≡ old g

-- this block is that now, or is away
pub record PutsBlock (b : BlockId) (o : Option BlockView) (old new : BlockId → Option BlockView) : Type 0 where
  pub here : new b ≡ o
  pub others : (c : BlockId) → (b ≡ c → ⊥) → new c ≡ old c
