use Rattle.std.proofs.Common.{arith, ◌∙◌, ◌-◌, length, drop, length-drop, length-take}
use Rattle.outside_io.proofs.WriteLemmas.{Appends-piece, stalls_after-some}
use Rattle.outside_io.proofs.whole.write_whole.Goals as goal

pub loop-done-preserved : goal.loop-done-preserved
loop-done-preserved g c = record {
  within = omega (arith, length-drop c.loop-done.done c.args.text.now, length-take (length c.args.text.now - c.loop-done.done) (drop c.loop-done.done c.args.text.now), c.in-Ok.ensures.bound);
  bytes = Appends-piece _ _ _ _ _ _ c.loop-done.invariant.bytes c.in-Ok.ensures.bytes;
  known = c.in-Ok.ensures.known ∙ c.loop-done.invariant.known;
  faults = c.in-Ok.ensures.quiet ∙ c.loop-done.invariant.faults;
  stalls = c.in-Ok.ensures.stalls ∙ stalls_after-some _ _ _ c.in-Ok.count-test.1 ∙ c.loop-done.invariant.stalls;
}
