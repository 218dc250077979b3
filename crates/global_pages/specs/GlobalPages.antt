-- The global page table. Source: Kenah and Bate, "VAX/VMS Internals and Data Structures", memory
-- structures, global pages.
use Rattle.std.specs.Prelude.{ℕ, ◌<◌, List, Option, None, length, slice_index, slice_index_or}
use Rattle.vm_types.specs.declared.names.Pfn.{Pfn}

-- by the number of a section page the frame that holds it, and how many valid process entries name it
pub record GlobalPages : Type 0 where
  pub frames : List (Option Pfn)
  pub counts : List ℕ

-- the number is one of a section page
abbrev pub IsGlobalPage : GlobalPages → ℕ → Type 0
IsGlobalPage pages g = g < length pages.frames

-- the frame that holds a page
abbrev pub frame_of : GlobalPages → ℕ → Option Pfn
frame_of pages g = slice_index_or pages.frames g None

-- the share count of a page
abbrev pub count_of : GlobalPages → ℕ → ℕ
count_of pages g = slice_index pages.counts g
