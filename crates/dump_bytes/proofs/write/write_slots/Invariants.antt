use Rattle.std.proofs.Common.{drop}
use Rattle.std.specs.List.{flat_map}
use Rattle.outside_io.proofs.WritesInTurn.{Progress}
use Rattle.dump_bytes.specs.Text.{slot_text}
use Rattle.dump_bytes.proofs.write.write_slots.Given as goal

abbrev pub invariant-loop-slot : goal.invariant-loop-slot
invariant-loop-slot g l =
    Progress (g.K.Sink.seen l.initial.sink) (g.K.Sink.seen l.sink)
    (flat_map slot_text l.slots) (flat_map slot_text (drop l.slot-index l.slots))
