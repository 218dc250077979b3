-- What the lists of a dump say of a frame, and of all. This project's own.
use Rattle.std.specs.Prelude.{ℕ, List, length, map}
use Rattle.std.specs.List.{range_with_len}
use Rattle.dump_bytes.specs.Dumped.{Dumped}
use Rattle.dump_lines.specs.declared.counts.Counts.{Counts}
use Rattle.dump_lines.specs.Shares.{shares_of}
use Rattle.dump_lines.specs.Occurrences.{times_in}
use Rattle.dump_lines.specs.References.{refs_of}

abbrev pub counts_of : Dumped → ℕ → Counts
counts_of d f = record { refs = refs_of d f; shares = shares_of d f; free = times_in d.free f; modified = times_in d.modified f }

-- by number
abbrev pub recount_of : Dumped → List Counts
recount_of d = map (counts_of d) (range_with_len 0 (length d.frames))
