use Rattle.std.proofs.Common.{◌≡◌, ℕ, ◌+◌, ◌<◌, [], drop, length, arith}
use Rattle.std.proofs.lemmas.List.{drop_all}
use Rattle.dump_lines.proofs.LinesLeft.{wrong_count-next}
use Rattle.dump_lines.proofs.checks.count_wrong.Goals as goal

one_more : (so_far left here behind all more : ℕ) → so_far + left ≡ all → left ≡ here + behind → more ≡ here → so_far + more + behind ≡ all
one_more so_far left here behind all more e f g = omega arith

pub loop-f-preserved : goal.loop-f-preserved
loop-f-preserved c =
    let within = c.loop-f-test.true in
    let there : c.loop-f.f < length c.args.counts.now = omega (arith, c.requires.same) in
    let few = c.count_checks-wrong.ensures.few in
    record {
      count = one_more _ _ _ _ _ _ c.loop-f.invariant.count (wrong_count-next c.args.frames.now c.args.counts.now c.loop-f.f _ _ within there) (c.count_checks-wrong.ensures.count c.loop-f.f);
      few = omega (arith, c.loop-f.invariant.few);
    }

pub returns : goal.returns
returns c =
    let none : drop c.loop-f.f c.args.frames.now ≡ [] = drop_all _ _ c.loop-f-test.false in
    omega (arith, rw none at c.loop-f.invariant.count)
