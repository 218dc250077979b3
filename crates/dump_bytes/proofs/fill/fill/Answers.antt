use Rattle.std.proofs.Common.{◌∙◌, List, ℕ, subst, sym, arith}
use Rattle.std.proofs.Math.Seq.{take-add}
use Rattle.std.proofs.KnownBytes.{Consumes-trans}
use Rattle.std.specs.Io.KnownBytes.{Consumes}
use Rattle.dump_bytes.proofs.fill.fill.Goals as goal

pub loop-held-preserved : goal.loop-held-preserved
loop-held-preserved g c = record {
  within = omega (arith, c.in-Ok.ensures.bound);
  bytes =
      let before = subst (λ (bs : List ℕ). Consumes (g.S.Source.seen c.args.source.now).left (g.S.Source.seen c.loop-held.source).left bs) (sym c.in-Ok.ensures.kept) c.loop-held.invariant.bytes in
      rw (take-add c.loop-held.held c.in-Ok.count c.read_more.new.buffer) (Consumes-trans _ _ _ _ _ before c.in-Ok.ensures.bytes);
  known = λ some. c.in-Ok.ensures.known (c.loop-held.invariant.known some);
  faults = c.in-Ok.ensures.quiet ∙ c.loop-held.invariant.faults;
}
