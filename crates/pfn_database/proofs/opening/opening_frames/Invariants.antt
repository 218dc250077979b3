use Rattle.std.proofs.Common.{◌≡◌, ◌<◌, ℕ, length, take, get_or}
use Rattle.pfn_database.specs.Rows.{bad_row}
use Rattle.pfn_database.specs.Frames.{opening_row}
use Rattle.pfn_database.specs.Kept.{kept_of}
use Rattle.pfn_database.proofs.opening.opening_frames.Given as goal

abbrev pub invariant-loop-frame : goal.invariant-loop-frame
invariant-loop-frame l = record {
  long : length l.kept.items ≡ l.fn.frames;
  kept : (k : ℕ) → k < l.fn.frames → get_or l.kept.items k (kept_of bad_row) ≡ kept_of (opening_row (take l.frame-index l.bad) k);
}
