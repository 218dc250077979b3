-- What a dump keeps of its frames that can be counted anew, with the recount. A frame on the free list has
-- state 0, one on the modified list state 1. This project's own.
use Rattle.std.specs.Prelude.{ℕ, ◌+◌, List, [], ◌∷◌, ◌++◌, codes, nat_eq, if◌then◌else◌}
use Rattle.dump_bytes.specs.declared.dump.FrameRec.{FrameRec}
use Rattle.dump_bytes.specs.Dumped.{Dumped}
use Rattle.dump_lines.specs.declared.counts.Counts.{Counts}
use Rattle.dump_lines.specs.Counts.{recount_of}

-- a number that is kept of a frame, under its name, and its recount
pub record Check : Type 0 where
  pub frame : ℕ
  pub name : List ℕ
  pub kept : ℕ
  pub recount : ℕ

-- 1 if the frame is in the state of this code, else 0
abbrev pub is_in : FrameRec → ℕ → ℕ
is_in row code = if nat_eq row.state code then 1 else 0

-- a frame's four numbers: its reference count, its share count, and whether it is free and modified
abbrev pub checks_of : ℕ → FrameRec → Counts → List Check
checks_of f row again =
    record { frame = f; name = codes "REFS"; kept = row.refs; recount = again.refs }
    ∷ record { frame = f; name = codes "SHARES"; kept = row.shares; recount = again.shares }
    ∷ record { frame = f; name = codes "FREE"; kept = is_in row 0; recount = again.free }
    ∷ record { frame = f; name = codes "MODIFIED"; kept = is_in row 1; recount = again.modified } ∷ []

-- those of frames from this number on, each beside its counts
abbrev pub checks_from : ℕ → List FrameRec → List Counts → List Check
checks_from f [] counts = []
checks_from f (row ∷ rows) [] = []
checks_from f (row ∷ rows) (again ∷ counts) = checks_of f row again ++ checks_from (f + 1) rows counts

-- those of all frames, in number order
abbrev pub checks : Dumped → List Check
checks d = checks_from 0 d.frames (recount_of d)
