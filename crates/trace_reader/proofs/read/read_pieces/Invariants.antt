use Rattle.std.proofs.Common.{◌≡◌, ◌+◌, ◌-◌, ◌*◌}
use Rattle.vm_types.specs.declared.limits.TheConstants.{MOST_LONG_LINES}
use Rattle.trace_reader.proofs.Reading.{IsBetween}
use Rattle.trace_reader.proofs.read.read_pieces.Given as goal

abbrev pub invariant-loop-count : goal.invariant-loop-count
invariant-loop-count g l = record {
  between : IsBetween (g.S.Source.seen l.fn.source).left (g.S.Source.seen l.source).left l.buffer l.reader.draft l.reader.number l.held;
  faults : (g.S.Source.seen l.source).failures ≡ (g.S.Source.seen l.fn.source).failures;
}

abbrev pub decreases-loop-count : goal.decreases-loop-count
decreases-loop-count g l = 256 * (MOST_LONG_LINES + 10 - l.reader.number) - l.held
