-- What lies in the swap blocks of the processes, one block for each slot of a working set list of 1024
-- slots. Source: Kenah and Bate, "VAX/VMS Internals and Data Structures", the swapper; that each slot has
-- a block of its own is this project's own.
use Rattle.std.specs.Prelude.{ℕ, ◌+◌, ◌*◌, ◌<◌, List, Option, None, nat_lt, slice_index_or, if◌then◌else◌}
use Rattle.vm_types.specs.declared.limits.TheConstants.{MOST_EXTENT}

-- how many processes there are, and the page numbers by process and slot
pub record SwapTable : Type 0 where
  pub procs : ℕ
  pub pages : List (Option ℕ)

-- the page number in the block of a process's slot
abbrev pub swapped_at : SwapTable → ℕ → ℕ → Option ℕ
swapped_at t p n = if nat_lt n MOST_EXTENT then slice_index_or t.pages (MOST_EXTENT * p + n) None else None

-- the process is one of the table's, and the slot has a block
pub record HasSlot (t : SwapTable) (p n : ℕ) : Type 0 where
  pub proc : p < t.procs
  pub slot : n < MOST_EXTENT
