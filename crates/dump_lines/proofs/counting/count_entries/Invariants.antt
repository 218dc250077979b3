use Rattle.std.specs.Prelude.{count_by, take}
use Rattle.dump_lines.specs.Raised.{AreRaised}
use Rattle.dump_lines.specs.Shares.{is_for}
use Rattle.dump_lines.proofs.counting.count_entries.Given as goal

abbrev pub invariant-loop-entry : goal.invariant-loop-entry
invariant-loop-entry l = AreRaised (λ f. count_by (is_for f) (take l.entry-index l.words)) l.initial.counts l.counts
