-- The blocks that aren't out, in any order, and where each one lies. No contract of a public call names
-- these definitions. This project's own.
use Rattle.std.specs.Prelude.{◌≡◌, ℕ, ◌<◌, ◌≤◌, ◌^◌, List, Option, Some, length, map, count_by, is_some, slice_get, option_and_then}
use Rattle.std.specs.Option.{option_map}
use Rattle.vm_types.specs.declared.names.BlockId.{BlockId}
use Rattle.frame_store.specs.Numbers.{AreNumbers}

pub record HomeView (B : Type 0) : Type 0 where
  -- the blocks' names
  pub ids : List BlockId
  -- the blocks, in the same order; none: out
  pub blocks : List (Option B)

-- the block at a place of the list; none if it has no place
abbrev pub block_in : {B : Type 0} → List (BlockId × B) → Option ℕ → Option B
block_in {B} home place = option_and_then (λ k. option_map (λ (p : BlockId × B). p.1) (slice_get home k)) place

-- the blocks by their numbers
unfoldable pub blocks_in : {B : Type 0} → List (BlockId × B) → List (Option ℕ) → List (Option B)
blocks_in home places = map (block_in home) places

-- each block lies at the place that is noted for its number, and each place that is noted has the block of that number
pub record IsNoted {B : Type 0} (home : List (BlockId × B)) (places : List (Option ℕ)) (ids : List BlockId) (number : BlockId → ℕ) : Type 0 where
  pub noted : (k : ℕ) (p : BlockId × B) → slice_get home k ≡ Some p → slice_get places (number p.0) ≡ Some (Some k)
  pub listed : (k : ℕ) (p : BlockId × B) → slice_get home k ≡ Some p → slice_get ids (number p.0) ≡ Some p.0
  pub there : (n k : ℕ) → slice_get places n ≡ Some (Some k) → (p : BlockId × B) × (slice_get home k ≡ Some p) × (number p.0 ≡ n)

-- and each name has one place for its block, found by the name, as many blocks lie there as have a place, and
-- there is room for all
pub record IsHomeTable {B : Type 0} (home : List (BlockId × B)) (places : List (Option ℕ)) (ids : List BlockId) (number : BlockId → ℕ) (space : ℕ) : Type 0 where
  pub laid : IsNoted home places ids number
  pub many : length places ≡ length ids
  pub count : length home ≡ count_by is_some places
  pub numbered : AreNumbers number ids
  pub room : length ids ≤ space
  pub few : length ids < 2 ^ 32
