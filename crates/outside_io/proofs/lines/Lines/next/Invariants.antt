use Rattle.std.proofs.Common.{◌≡◌, ◌-◌, length}
use Rattle.std.specs.Prelude.{IsSome}
use Rattle.outside_io.specs.BytesLeft.{bytes_left}
use Rattle.outside_io.specs.HandedOut.{IsInLine}
use Rattle.outside_io.proofs.Taking.{IsSplit}
use Rattle.outside_io.proofs.lines.Lines.next.Given as goal

abbrev pub invariant-loop-self : goal.invariant-loop-self
invariant-loop-self g l = record {
  same_reference : l.self.source.ghost_name ≡ l.fn.self.source.ghost_name;
  in_line : IsInLine l.out.items;
  split : IsSplit (bytes_left g.S.Source.seen l.fn.self) (bytes_left g.S.Source.seen l.self) l.out.items;
  known : IsSome (g.S.Source.seen l.fn.self.source.now).left → IsSome (g.S.Source.seen l.self.source.now).left;
  quiet : (g.S.Source.seen l.self.source.now).failures ≡ (g.S.Source.seen l.fn.self.source.now).failures;
}

abbrev pub decreases-loop-self : goal.decreases-loop-self
decreases-loop-self g l = 256 - length l.out.items
