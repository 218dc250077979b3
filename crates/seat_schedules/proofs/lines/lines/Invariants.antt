use Rattle.std.proofs.Common.{◌≡◌, ◌+◌, ◌++◌, drop}
use Rattle.run_words.specs.Text.{entry_lines}
use Rattle.seat_schedules.proofs.lines.lines.Given as goal

-- the number of the next entry, and the text so far with the lines that are left
abbrev pub invariant-loop-e : goal.invariant-loop-e
invariant-loop-e l = record {
  number : l.number ≡ l.e-index + 1;
  text : l.text.items ++ entry_lines l.number l.procs l.names (drop l.e-index l.entries) ≡ entry_lines 1 l.procs l.names l.entries;
}
