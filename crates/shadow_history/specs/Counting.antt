-- The counts of failures of the blocks that have failed. This project's own.
use Rattle.std.specs.Prelude.{◌≡◌, ℕ, ◌<◌, List, [], ◌∷◌, false, if◌then◌else◌, slice_get, Some}
use Rattle.vm_types.specs.Same.{same_block}
use Rattle.vm_types.specs.declared.names.BlockId.{BlockId}
use Rattle.shadow_history.specs.declared.count.Count.{Count}

-- the count of a block: the first one that names it, or 0 if none does
abbrev pub count_of : BlockId → List Count → ℕ
count_of b [] = 0
count_of b (x ∷ counts) = if same_block b x.block then x.faults else count_of b counts

-- the counts say of each block what the others did, but of this one that number
abbrev pub IsCountSet : BlockId → ℕ → List Count → List Count → Type 0
IsCountSet block faults old new = (b : BlockId) → count_of b new ≡ (if same_block b block then faults else count_of b old)

-- none of the first i counts is of the block
abbrev pub AreOthers : BlockId → List Count → ℕ → Type 0
AreOthers block counts i = (k : ℕ) (x : Count) → k < i → slice_get counts k ≡ Some x → same_block block x.block ≡ false
