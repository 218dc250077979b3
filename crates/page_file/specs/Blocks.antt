-- The blocks of a page file. Source: Kenah and Bate, "VAX/VMS Internals and Data Structures", page
-- files; that a block is charged before one is assigned is this project's own.
use Rattle.std.specs.Prelude.{◌≡◌, ℕ, ◌-◌, ◌^◌, ◌<◌, ◌≤◌, ◌++◌, List, Option, None, length, replicate, count_by, is_some, IsSome, slice_index_or}
use Rattle.vm_types.specs.declared.names.Page.{Page}

-- how many blocks are charged, and by block number the page that the block is assigned to
pub record Blocks : Type 0 where
  pub charged : ℕ
  pub owners : List (Option Page)

-- the page that a block is assigned to: none where it is free, or there is no such block
abbrev pub owner_of : Blocks → ℕ → Option Page
owner_of blocks block = slice_index_or blocks.owners block None

-- how many blocks are assigned to a page
abbrev pub assigned_blocks : Blocks → ℕ
assigned_blocks blocks = count_by is_some blocks.owners

-- there is such a block, and it is assigned to no page
pub record IsFreeBlock (blocks : Blocks) (block : ℕ) : Type 0 where
  pub exists : block < length blocks.owners
  pub free : owner_of blocks block ≡ None

-- the block is assigned to a page
abbrev pub IsAssignedBlock : Blocks → ℕ → Type 0
IsAssignedBlock blocks block = IsSome (owner_of blocks block)

-- no block below this one is free
abbrev pub NoneFreeBelow : Blocks → ℕ → Type 0
NoneFreeBelow blocks block = (k : ℕ) → k < block → ¬ IsFreeBlock blocks k

-- each assigned block is charged, and no more are charged than there are
pub record AreBlocks (blocks : Blocks) : Type 0 where
  pub assigned : assigned_blocks blocks ≤ blocks.charged
  pub charged : blocks.charged ≤ length blocks.owners
  pub numbered : length blocks.owners < 2 ^ 32

-- the owners of all blocks, of which only those of the first blocks are written: each other block is free
abbrev pub all_owners : List (Option Page) → ℕ → List (Option Page)
all_owners written blocks = written ++ replicate (blocks - length written) None

-- the blocks of a page file that has so many
abbrev pub blocks_of : ℕ → List (Option Page) → ℕ → Blocks
blocks_of charged written blocks = record { charged = charged; owners = all_owners written blocks }
