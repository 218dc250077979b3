use Rattle.std.proofs.Common.{◌≡◌, [], drop}
use Rattle.std.proofs.lemmas.List.{drop_all}
use Rattle.std.proofs.lemmas.Result.{err_from_is_err_and}
use Rattle.run_text.proofs.RowsLeft.{dirty_lines-next}
use Rattle.outside_io.proofs.WritesInTurn.{progress_none, progress_more, progress_fault, progress_all}
use Rattle.run_text.proofs.dirty_lines.print_dirty.Goals as goal

pub loop-page-init : goal.loop-page-init
loop-page-init g c = progress_none _ _

pub returns-in_err-print_dirty_page : goal.returns-in_err-print_dirty_page
returns-in_err-print_dirty_page g c =
    let p = err_from_is_err_and c.from_residual.result c.from_residual.ensures.1 in
    rw (p.1, p.2) (progress_fault _ (dirty_lines-next c.args.names.now c.args.dirty.now c.loop-page.page-index _ c.loop-page-test.true) c.loop-page.invariant c.in_err-print_dirty_page.ensures)

pub loop-page-preserved : goal.loop-page-preserved
loop-page-preserved g c = progress_more _ (dirty_lines-next c.args.names.now c.args.dirty.now c.loop-page.page-index _ c.loop-page-test.true) c.loop-page.invariant c.in_ok-print_dirty_page.ensures

pub returns : goal.returns
returns g c =
    let none : drop c.loop-page.page-index c.args.dirty.now ≡ [] = drop_all _ _ c.loop-page-test.false in
    progress_all (rw none at c.loop-page.invariant)
