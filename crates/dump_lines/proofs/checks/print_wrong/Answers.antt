use Rattle.std.proofs.Common.{◌≡◌, ◌<◌, [], drop, length, arith}
use Rattle.std.proofs.lemmas.List.{drop_all}
use Rattle.std.proofs.lemmas.Result.{err_from_is_err_and}
use Rattle.outside_io.proofs.WritesInTurn.{progress_none, progress_more, progress_fault, progress_all}
use Rattle.dump_lines.proofs.LinesLeft.{wrong_lines-next}
use Rattle.dump_lines.proofs.checks.print_wrong.Goals as goal

pub loop-f-init : goal.loop-f-init
loop-f-init g c = progress_none _ _

pub returns-in_err-print_checks : goal.returns-in_err-print_checks
returns-in_err-print_checks g c =
    let p = err_from_is_err_and c.from_residual.result c.from_residual.ensures.1 in
    let within = c.loop-f-test.true in
    let there : c.loop-f.f < length c.args.counts.now = omega (arith, c.requires.same) in
    rw (p.1, p.2) (progress_fault _ (wrong_lines-next c.args.frames.now c.args.counts.now c.loop-f.f _ _ within there) c.loop-f.invariant c.in_err-print_checks.ensures)

pub loop-f-preserved : goal.loop-f-preserved
loop-f-preserved g c =
    let within = c.loop-f-test.true in
    let there : c.loop-f.f < length c.args.counts.now = omega (arith, c.requires.same) in
    progress_more _ (wrong_lines-next c.args.frames.now c.args.counts.now c.loop-f.f _ _ within there) c.loop-f.invariant c.in_ok-print_checks.ensures

pub returns : goal.returns
returns g c =
    let none : drop c.loop-f.f c.args.frames.now ≡ [] = drop_all _ _ c.loop-f-test.false in
    progress_all (rw none at c.loop-f.invariant)
