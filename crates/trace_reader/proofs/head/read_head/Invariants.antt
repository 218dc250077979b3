use Rattle.std.proofs.Common.{◌≡◌, ◌+◌, ◌-◌}
use Rattle.std.specs.Prelude.{IsSome}
use Rattle.vm_types.specs.declared.limits.TheConstants.{MOST_LONG_LINES}
use Rattle.outside_io.specs.BytesLeft.{bytes_left}
use Rattle.trace_reader.specs.Stream.{IsReading}
use Rattle.trace_reader.specs.HeadAnswer.{IsTold}
use Rattle.trace_reader.proofs.head.read_head.Given as goal

abbrev pub invariant-front : goal.invariant-front
invariant-front g l = record {
  same_reference : l.lines.source.ghost_name ≡ l.fn.lines.source.ghost_name;
  reading : IsReading l.reader.draft l.reader.number;
  told : IsTold (bytes_left g.S.Source.seen l.fn.lines) l.reader.draft.part l.reader.number (bytes_left g.S.Source.seen l.lines);
  still_told : IsSome (g.S.Source.seen l.fn.lines.source.now).left → IsSome (g.S.Source.seen l.lines.source.now).left;
  faults : (g.S.Source.seen l.lines.source.now).failures ≡ (g.S.Source.seen l.fn.lines.source.now).failures;
}

abbrev pub decreases-front : goal.decreases-front
decreases-front g l = MOST_LONG_LINES + 10 - l.reader.number
