use Rattle.std.proofs.Common.{◌≡◌, ◌+◌, ◌≤◌, ◌++◌, drop}
use Rattle.arrayvec.specs.ArrayVec.{array_vec_len}
use Rattle.run_words.specs.Text.{entry_lines}
use Rattle.outside_io.proofs.WritesInTurn.{Progress}
use Rattle.run_text.proofs.entries.print_entries.Given as goal

abbrev pub invariant-loop-e : goal.invariant-loop-e
invariant-loop-e g l = record {
  number : l.number ≡ l.fn.first + l.e-index;
  room : array_vec_len l.lines ≤ 1888;
  progress : Progress (g.K.Sink.seen l.initial.sink) (g.K.Sink.seen l.sink)
      (entry_lines l.fn.first l.procs l.names l.entries) (l.lines.items ++ entry_lines l.number l.procs l.names (drop l.e-index l.entries));
}
