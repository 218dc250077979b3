-- The PFN database as a whole. Source: Kenah and Bate, "VAX/VMS Internals and Data Structures", the
-- PFN database: the free and the modified page list.
use Rattle.std.specs.Prelude.{◌≡◌, ℕ, ◌==◌, Bool, true, false, if◌then◌else◌, List, [], length, map, filter, not, All, slice_index_or, slice_set}
use Rattle.std.specs.List.{list_any, range_with_len}
use Rattle.vm_types.specs.declared.names.FrameState.{FrameState}
use Rattle.vm_types.specs.declared.names.FrameState.TheVariants.{Free, Modified}
use Rattle.vm_types.specs.declared.names.Pfn.{Pfn}
use Rattle.page_lists.specs.Lists.{TwoLists, count_of}
use Rattle.pfn_database.specs.declared.row.Row.{Row}
use Rattle.pfn_database.specs.Rows.{bad_row, empty_row, IsRow}

-- a row for each frame, by number, and the two lists, each from its head on
pub record Frames : Type 0 where
  pub rows : List Row
  pub free : List ℕ
  pub modified : List ℕ

-- the row of a frame; there is no frame past the rows, which reads as a bad one
abbrev pub row_of : Frames → ℕ → Row
row_of frames frame = slice_index_or frames.rows frame bad_row

-- the two lists alone: the cells of a frame hold its shares and its ring slot
abbrev pub lists_of : Frames → TwoLists
lists_of frames = record {
  frames = length frames.rows;
  free = frames.free;
  modified = frames.modified;
  cells = map (λ row. (row.shares, row.slot)) frames.rows;
}

abbrev pub is_free : FrameState → Bool
is_free Free = true
is_free state = false

abbrev pub is_modified : FrameState → Bool
is_modified Modified = true
is_modified state = false

-- the free list has exactly the Free frames and the modified list exactly the Modified ones, each
-- once, and every row is one
pub record IsConsistent (frames : Frames) : Type 0 where
  pub free : (frame : ℕ) → count_of frames.free frame ≡ (if is_free (row_of frames frame).state then 1 else 0)
  pub modified : (frame : ℕ) → count_of frames.modified frame ≡ (if is_modified (row_of frames frame).state then 1 else 0)
  pub rows : All IsRow frames.rows

-- once one frame has this row, the other rows and the lists are as before
pub record HasRow (old new : Frames) (frame : ℕ) (row : Row) : Type 0 where
  pub rows : new.rows ≡ slice_set old.rows frame row
  pub free : new.free ≡ old.free
  pub modified : new.modified ≡ old.modified
  pub consistent : IsConsistent new

abbrev pub is_bad : List ℕ → ℕ → Bool
is_bad bad frame = list_any (λ number. number == frame) bad

abbrev pub opening_row : List ℕ → ℕ → Row
opening_row bad frame = if is_bad bad frame then bad_row else empty_row

-- so many frames, none of them used: those that aren't bad are empty and free in number order
abbrev pub opening : ℕ → List ℕ → Frames
opening count bad = record {
  rows = map (opening_row bad) (range_with_len 0 count);
  free = filter (λ frame. not (is_bad bad frame)) (range_with_len 0 count);
  modified = [];
}

-- the number of a frame
abbrev pub number : Pfn → ℕ
number frame = frame.0
