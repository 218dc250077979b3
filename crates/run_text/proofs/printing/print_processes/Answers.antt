use Rattle.std.proofs.Common.{◌≡◌, [], drop}
use Rattle.std.proofs.lemmas.List.{drop_all}
use Rattle.std.proofs.lemmas.Result.{err_from_is_err_and}
use Rattle.run_text.proofs.RowsLeft.{process_lines-next}
use Rattle.outside_io.proofs.WritesInTurn.{progress_none, progress_more, progress_fault, progress_all}
use Rattle.run_text.proofs.printing.print_processes.Goals as goal

pub loop-p-init : goal.loop-p-init
loop-p-init g c = progress_none _ _

pub returns-in_err-print_process : goal.returns-in_err-print_process
returns-in_err-print_process g c =
    let p = err_from_is_err_and c.from_residual.result c.from_residual.ensures.1 in
    rw (p.1, p.2) (progress_fault _ (process_lines-next c.args.processes.now c.loop-p.p _ c.loop-p-test.true) c.loop-p.invariant c.in_err-print_process.ensures)

pub loop-p-preserved : goal.loop-p-preserved
loop-p-preserved g c = progress_more _ (process_lines-next c.args.processes.now c.loop-p.p _ c.loop-p-test.true) c.loop-p.invariant c.in_ok-print_process.ensures

pub returns : goal.returns
returns g c =
    let none : drop c.loop-p.p c.args.processes.now ≡ [] = drop_all _ _ c.loop-p-test.false in
    progress_all (rw none at c.loop-p.invariant)
