use Rattle.std.proofs.Common.{drop}
use Rattle.std.specs.List.{flat_map}
use Rattle.outside_io.proofs.WritesInTurn.{Progress}
use Rattle.dump_bytes.specs.Text.{word_text}
use Rattle.dump_bytes.proofs.write.write_entries.Given as goal

abbrev pub invariant-loop-entry : goal.invariant-loop-entry
invariant-loop-entry g l =
    Progress (g.K.Sink.seen l.initial.sink) (g.K.Sink.seen l.sink)
    (flat_map word_text l.entries) (flat_map word_text (drop l.entry-index l.entries))
