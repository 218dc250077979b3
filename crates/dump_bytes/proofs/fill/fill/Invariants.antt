use Rattle.std.proofs.Common.{◌≡◌, ◌≤◌, ◌-◌, length, take}
use Rattle.std.specs.Prelude.{IsSome}
use Rattle.std.specs.Io.KnownBytes.{Consumes}
use Rattle.dump_bytes.proofs.fill.fill.Given as goal

abbrev pub invariant-loop-held : goal.invariant-loop-held
invariant-loop-held g l = record {
  within : l.held ≤ length l.buffer;
  bytes : Consumes (g.S.Source.seen l.initial.source).left (g.S.Source.seen l.source).left (take l.held l.buffer);
  known : IsSome (g.S.Source.seen l.initial.source).left → IsSome (g.S.Source.seen l.source).left;
  faults : (g.S.Source.seen l.source).failures ≡ (g.S.Source.seen l.initial.source).failures;
}

abbrev pub decreases-loop-held : goal.decreases-loop-held
decreases-loop-held g l = length l.buffer - l.held
