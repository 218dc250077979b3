-- The name of a block's file. Source: this project's own.
use Rattle.std.specs.Prelude.{◌≡◌, ℕ, ◌^◌, ◌<◌, ◌++◌, List, codes, decimal}
use Rattle.vm_types.specs.declared.names.BlockId.{BlockId}
use Rattle.vm_types.specs.declared.names.BlockId.TheVariants.{Section, PageFile, Swap}

abbrev pub file_name : BlockId → List ℕ
file_name (Section s page) = codes "s" ++ (decimal s.0 ++ (codes "_" ++ decimal page))
file_name (PageFile b) = codes "p" ++ decimal b
file_name (Swap p slot) = codes "x" ++ (decimal p.0 ++ (codes "_" ++ decimal slot))

-- the numbers of a block are of 32 bits
abbrev pub IsNumbered : BlockId → Type 0
IsNumbered (Section s page) = (s.0 < 2 ^ 32) × (page < 2 ^ 32)
IsNumbered (PageFile b) = b < 2 ^ 32
IsNumbered (Swap p slot) = (p.0 < 2 ^ 32) × (slot < 2 ^ 32)

-- blocks with one name are one block
abbrev pub AreOneToOne : Type 0
AreOneToOne = (a b : BlockId) → IsNumbered a → IsNumbered b → file_name a ≡ file_name b → a ≡ b
