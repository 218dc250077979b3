use Rattle.std.proofs.Common.{drop}
use Rattle.std.specs.List.{flat_map}
use Rattle.outside_io.proofs.WritesInTurn.{Progress}
use Rattle.dump_bytes.specs.Text.{number}
use Rattle.dump_bytes.proofs.write.write_numbers.Given as goal

abbrev pub invariant-loop-n : goal.invariant-loop-n
invariant-loop-n g l =
    Progress (g.K.Sink.seen l.initial.sink) (g.K.Sink.seen l.sink)
    (flat_map number l.numbers) (flat_map number (drop l.n-index l.numbers))
