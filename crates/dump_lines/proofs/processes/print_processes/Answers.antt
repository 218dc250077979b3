use Rattle.std.proofs.Common.{◌≡◌, [], drop, subst, sym}
use Rattle.std.proofs.lemmas.List.{drop_all}
use Rattle.std.proofs.lemmas.Result.{err_from_is_err_and}
use Rattle.outside_io.proofs.WritesInTurn.{progress_none, progress_more, progress_fault, progress_all}
use Rattle.dump_lines.specs.Printable.{IsPrintableProcess}
use Rattle.dump_lines.proofs.LinesLeft.{process_lines-next}
use Rattle.dump_lines.proofs.processes.print_processes.Goals as goal

pub loop-x-init : goal.loop-x-init
loop-x-init g c = progress_none _ _

pub print_process-requires-clause-printable : goal.print_process-requires-clause-printable
print_process-requires-clause-printable g c = subst IsPrintableProcess (sym c.index-procs-x.is) (c.requires.printable c.loop-x.x _ c.loop-x-test.true)

pub returns-in_err-print_process : goal.returns-in_err-print_process
returns-in_err-print_process g c =
    let p = err_from_is_err_and c.from_residual.result c.from_residual.ensures.1 in
    rw (p.1, p.2) (progress_fault _ (process_lines-next c.args.procs.now c.loop-x.x _ c.loop-x-test.true c.index-procs-x.is) c.loop-x.invariant c.in_err-print_process.ensures)

pub loop-x-preserved : goal.loop-x-preserved
loop-x-preserved g c = progress_more _ (process_lines-next c.args.procs.now c.loop-x.x _ c.loop-x-test.true c.index-procs-x.is) c.loop-x.invariant c.in_ok-print_process.ensures

pub returns : goal.returns
returns g c =
    let none : drop c.loop-x.x c.args.procs.now ≡ [] = drop_all _ _ c.loop-x-test.false in
    progress_all (rw none at c.loop-x.invariant)
