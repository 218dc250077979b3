-- The counts of a frame, by lists of what was counted. This project's own.
use Rattle.std.specs.Prelude.{ℕ, ◌+◌, List, nat_lt, slice_index, if◌then◌else◌}
use Rattle.dump_lines.specs.declared.counts.Counts.{Counts}

abbrev pub counts_at : List ℕ → List ℕ → List ℕ → List ℕ → ℕ → Counts
counts_at shares uses free modified f =
    record {
      refs = (if nat_lt 0 (slice_index shares f) then 1 else 0) + slice_index uses f;
      shares = slice_index shares f;
      free = slice_index free f;
      modified = slice_index modified f;
    }
