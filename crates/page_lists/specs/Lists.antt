-- The free and the modified page list. Source: Kenah and Bate, "VAX/VMS Internals and Data
-- Structures", the PFN database: the free and the modified page list, and their link fields, which
-- hold the share count and the working set list index of a page that is on neither. That there is
-- no list of bad pages, and that the cells of a frame on a list read as zeros, is this project's own.
use Rattle.std.specs.Prelude.{◌≡◌, ℕ, ◌+◌, ◌≤◌, ◌==◌, List, Option, None, Some, filter, count_by, length, not, slice_get, slice_index_or}
use Rattle.page_lists.specs.declared.list_name.ListName.{ListName}
use Rattle.page_lists.specs.declared.list_name.ListName.TheVariants.{Free, Modified}

-- the two lists of a memory with so many frames, each from its head on, and by frame what its two
-- cells hold while it is on neither
pub record TwoLists : Type 0 where
  pub frames : ℕ
  pub free : List ℕ
  pub modified : List ℕ
  pub cells : List (ℕ × ℕ)

-- the list of this name
abbrev pub list_of : TwoLists → ListName → List ℕ
list_of lists Free = lists.free
list_of lists Modified = lists.modified

-- the name of the other list
abbrev pub other_of : ListName → ListName
other_of Free = Modified
other_of Modified = Free

-- what the two cells of a frame hold: zeros for a frame on a list
abbrev pub cells_of : TwoLists → ℕ → ℕ × ℕ
cells_of lists frame = slice_index_or lists.cells frame (0, 0)

-- how often a frame stands in a list
abbrev pub count_of : List ℕ → ℕ → ℕ
count_of list frame = count_by (λ other. other == frame) list

-- a list without a frame, the rest in order
abbrev pub without : List ℕ → ℕ → List ℕ
without list frame = filter (λ other. not (other == frame)) list

-- the frame is on this list
abbrev pub IsOn : TwoLists → ListName → ℕ → Type 0
IsOn lists name frame = count_of (list_of lists name) frame ≡ 1

-- the frame is on neither list
abbrev pub IsOnNone : TwoLists → ℕ → Type 0
IsOnNone lists frame = (count_of lists.free frame ≡ 0) × (count_of lists.modified frame ≡ 0)

-- every frame on a list is below `frames`, stands once on one of the two, and has cells of zeros;
-- each frame has cells
pub record AreTwoLists (lists : TwoLists) : Type 0 where
  pub below : (frame : ℕ) → lists.frames ≤ frame → IsOnNone lists frame
  pub once : (frame : ℕ) → count_of lists.free frame + count_of lists.modified frame ≤ 1
  pub zeros : (name : ListName) (frame : ℕ) → IsOn lists name frame → cells_of lists frame ≡ (0, 0)
  pub each : length lists.cells ≡ lists.frames

-- wherever the frame stands on a list, this is what stands in the next place; none where it is
-- the last, or on neither list
pub record IsNext (lists : TwoLists) (frame : ℕ) (next : Option ℕ) : Type 0 where
  pub after : (name : ListName) (place : ℕ) → slice_get (list_of lists name) place ≡ Some frame → next ≡ slice_get (list_of lists name) (place + 1)
  pub alone : IsOnNone lists frame → next ≡ None
