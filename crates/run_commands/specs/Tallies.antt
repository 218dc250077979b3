-- The counts that tallies of entries give. Source: this project's own.
use Rattle.std.specs.Prelude.{ℕ, List, slice_index_or}
use Rattle.run_commands.specs.declared.counts.Counts.{Counts}

-- the counts that the tallies give
abbrev pub counts_in : List ℕ → Counts
counts_in tallies = record {
  done = slice_index_or tallies 0 0;
  denied = slice_index_or tallies 1 0;
  zeros = slice_index_or tallies 4 0;
  backs = slice_index_or tallies 5 0;
  reads = slice_index_or tallies 7 0;
  writes = slice_index_or tallies 10 0;
  evictions = slice_index_or tallies 13 0;
  turns = slice_index_or tallies 15 0;
  limits = slice_index_or tallies 14 0;
}
