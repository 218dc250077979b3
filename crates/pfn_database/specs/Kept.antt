-- How a row is kept: what stands beside the link cells, and the two cells, which hold the share
-- count and the ring slot of a frame on no list. Source: Kenah and Bate, "VAX/VMS Internals and Data
-- Structures", the PFN database: the forward link and the share count, and the backward link and the
-- working set list index, have one field each.
use Rattle.std.specs.Prelude.{ℕ, List, [], ◌∷◌}
use Rattle.pfn_database.specs.declared.row.Row.{Row}
use Rattle.pfn_database.specs.declared.kept.Kept.{Kept}

-- the row of these parts
abbrev pub joined : Kept → ℕ × ℕ → Row
joined kept cells = record {
  state = kept.state;
  page = kept.page;
  modify = kept.modify;
  refs = kept.refs;
  shares = cells.0;
  slot = cells.1;
  flights = kept.flights;
}

-- what is kept beside the cells
abbrev pub kept_of : Row → Kept
kept_of row = record { state = row.state; page = row.page; modify = row.modify; refs = row.refs; flights = row.flights }

-- the rows of all frames
abbrev pub rows_of : List Kept → List (ℕ × ℕ) → List Row
rows_of [] cells = []
rows_of (kept ∷ others) [] = []
rows_of (kept ∷ others) (cells ∷ rest) = joined kept cells ∷ rows_of others rest
