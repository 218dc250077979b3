-- What a frame and the page lists are once one valid entry less is for the frame. Source: Kenah and Bate,
-- "VAX/VMS Internals and Data Structures", the PFN database: the share count, the reference count and the
-- page lists.
use Rattle.std.specs.Prelude.{ℕ, ◌-◌, ◌==◌, List, if◌then◌else◌}
use Rattle.vm_types.specs.declared.names.FrameState.TheVariants.{Free, Modified}
use Rattle.pfn_database.specs.declared.row.Row.{Row}
use Rattle.pfn_database.specs.Frames.{Frames, row_of}
use Rattle.pager_model.specs.Changes.{pushed_if}
use Rattle.pager_model.specs.Evict.{evicted_to}
use Rattle.pager_model.specs.Lookups.{is}

-- the row, with so many references
abbrev pub without_entry : Row → ℕ → Row
without_entry row references = record row {
  state = evicted_to row.shares row.flights row.modify;
  refs = references;
  shares = row.shares - 1;
  slot = if row.shares == 1 then 0 else row.slot;
}

-- the free list: the frame goes onto its tail, or it stays
abbrev pub free_after : Frames → ℕ → List ℕ
free_after frames frame =
    let row = row_of frames frame in
    pushed_if (is Free (evicted_to row.shares row.flights row.modify)) frames.free frame

-- and the modified list
abbrev pub modified_after : Frames → ℕ → List ℕ
modified_after frames frame =
    let row = row_of frames frame in
    pushed_if (is Modified (evicted_to row.shares row.flights row.modify)) frames.modified frame
