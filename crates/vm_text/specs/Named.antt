-- What has a name in text, so that a name stands for one thing. Source: this project's own.
use Rattle.std.specs.Prelude.{◌≡◌, ◌≢◌, ℕ, ◌%◌, ◌^◌, ◌<◌, ◌≤◌, List, length, slice_get, All, AllPairs, IsSomeAnd}
use Rattle.vm_types.specs.declared.limits.TheConstants.{PAGE_BYTES}
use Rattle.vm_types.specs.Configuration.{IsName}
use Rattle.vm_types.specs.declared.config.Section.{Section}
use Rattle.vm_types.specs.declared.names.Page.{Page}
use Rattle.vm_types.specs.declared.names.Page.TheVariants.{Private, Shared}
use Rattle.vm_types.specs.declared.names.BlockId.{BlockId}
use Rattle.vm_types.specs.declared.names.BlockId.TheVariants as block

-- processes have letters, A to P at most, and sections have names that differ
pub record AreNames (procs : ℕ) (names : List Section) : Type 0 where
  pub few : procs ≤ 16
  pub named : All (λ section. IsName section.name) names
  pub differ : AllPairs (λ s t. s.name ≢ t.name) names

-- the first address of a page
pub record IsPageStart (address : ℕ) : Type 0 where
  pub aligned : address % PAGE_BYTES ≡ 0
  pub small : address < 2 ^ 32

-- a process, and the first address of a page
abbrev pub IsPlace : ℕ → ℕ → ℕ → Type 0
IsPlace procs process address = (process < procs) × IsPageStart address

-- one of the sections
pub record IsNamedSection (names : List Section) (s : ℕ) : Type 0 where
  pub there : s < length names
  pub small : s < 2 ^ 32

abbrev pub IsNamedPage : ℕ → List Section → Page → Type 0
IsNamedPage procs names (Private p v) = (p.0 < procs) × (v < 2 ^ 23)
IsNamedPage procs names (Shared s i) = IsNamedSection names s.0 × (i < 2 ^ 32)

abbrev pub IsNamedBlock : ℕ → List Section → BlockId → Type 0
IsNamedBlock procs names (block.Section s i) = IsNamedSection names s.0 × (i < 2 ^ 32)
IsNamedBlock procs names (block.PageFile b) = b < 2 ^ 32
IsNamedBlock procs names (block.Swap p n) = (p.0 < procs) × (n < 2 ^ 32)

-- the section's name has at most 15 bytes
abbrev pub IsShortSection : List Section → ℕ → Type 0
IsShortSection names s = IsSomeAnd (slice_get names s) (λ section. length section.name ≤ 15)

-- a page that can be printed: its process has a letter and its address 32 bits, or its section a name
abbrev pub IsPrintablePage : List Section → Page → Type 0
IsPrintablePage names (Private p v) = (p.0 < 16) × (v < 2 ^ 23)
IsPrintablePage names (Shared s i) = IsShortSection names s.0

abbrev pub IsPrintableBlock : List Section → BlockId → Type 0
IsPrintableBlock names (block.Section s i) = IsShortSection names s.0
IsPrintableBlock names (block.PageFile b) = Unit {0}
IsPrintableBlock names (block.Swap p n) = p.0 < 16
