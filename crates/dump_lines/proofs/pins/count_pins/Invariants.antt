use Rattle.std.specs.Prelude.{count_by, take}
use Rattle.dump_lines.specs.Pins.{is_pin}
use Rattle.dump_lines.specs.Raised.{AreRaised}
use Rattle.dump_lines.proofs.pins.count_pins.Given as goal

abbrev pub invariant-loop-slot : goal.invariant-loop-slot
invariant-loop-slot l = AreRaised (λ f. count_by (is_pin l.words f) (take l.slot-index l.slots)) l.initial.counts l.counts
