-- What contracts see of a store. This project's own.
use Rattle.std.specs.Prelude.{◌≡◌, ℕ, ◌+◌, ◌-◌, List, Option, Some, None, length, slice_get, slice_set, map, if◌then◌else◌}
use Rattle.std.specs.Option.{option_map}
use Rattle.vm_types.specs.declared.names.BlockId.{BlockId}
use Rattle.vm_types.specs.declared.pool_name.PoolName.{PoolName}
use Rattle.page_pool.specs.Pool.{Buffer}
use Rattle.pfn_database.specs.Frames.{Frames}
use Rattle.frame_store.specs.Blocks.{number_in}
use Rattle.frame_store.specs.LiftView.{LiftView}

pub record StoreView (B : Type 0) : Type 0 where
  -- the pool that all its buffers are of
  pub pool : PoolName
  -- how many buffers are left in the pool
  pub left : ℕ
  -- the PFN database
  pub frames : Frames
  -- the bytes of each frame; none: out with a read
  pub buffers : List (Option (List ℕ))
  -- the blocks' names
  pub ids : List BlockId
  -- the blocks, in the same order; none: out with a transfer
  pub blocks : List (Option B)
  -- for each frame the number of the entry in which its open transfer began
  pub flights : List (Option ℕ)

-- the bytes of buffers
abbrev pub bytes_of : List (Option Buffer) → List (Option (List ℕ))
bytes_of buffers = map (option_map (λ (b : Buffer). b.bytes)) buffers

-- what a store keeps: its buffers are of its pool, and each frame has one place for a transfer
pub record IsStore (pool : PoolName) (bufs : List (Option Buffer)) (numbers : List (Option ℕ)) : Type 0 where
  pub buffers : (f : ℕ) (b : Buffer) → slice_get bufs f ≡ Some (Some b) → b.pool ≡ pool
  pub flights : length numbers ≡ length bufs

-- a transfer begins: its block is out, and for a read the frame's buffer; for a write a buffer less is left
abbrev pub lifted_in : {B : Type 0} → StoreView B → ℕ → BlockId → ℕ → StoreView B
lifted_in s f b start =
    record s {
      buffers = slice_set s.buffers f None;
      blocks = slice_set s.blocks (number_in s.ids b) None;
      flights = slice_set s.flights f (Some start);
    }

abbrev pub lifted_out : {B : Type 0} → StoreView B → ℕ → BlockId → ℕ → StoreView B
lifted_out s f b start =
    record s {
      left = s.left - 1;
      blocks = slice_set s.blocks (number_in s.ids b) None;
      flights = slice_set s.flights f (Some start);
    }

-- it ends: the block is back, and the buffer, for a read in the frame's place, for a write in the pool
abbrev pub landed : {B : Type 0} → StoreView B → LiftView B → StoreView B
landed s lift =
    record s {
      left = if lift.is_read then s.left else s.left + 1;
      buffers = if lift.is_read then slice_set s.buffers lift.frame (Some lift.buffer) else s.buffers;
      blocks = slice_set s.blocks (number_in s.ids lift.block) (Some lift.held);
      flights = slice_set s.flights lift.frame None;
    }
