use Rattle.std.proofs.Common.{◌≡◌, ◌+◌, [], drop}
use Rattle.std.proofs.lemmas.List.{drop_all}
use Rattle.std.proofs.lemmas.Result.{err_from_is_err_and}
use Rattle.outside_io.proofs.WritesInTurn.{progress_none, progress_more, progress_fault, progress_all}
use Rattle.study_command.proofs.Printed.{lru_lines-next}
use Rattle.study_command.proofs.printing.print_lru.Goals as goal

pub loop-i-init : goal.loop-i-init
loop-i-init g c = progress_none _ _

pub returns-in_err-print_faults : goal.returns-in_err-print_faults
returns-in_err-print_faults g c =
    let p = err_from_is_err_and c.from_residual.result c.from_residual.ensures.1 in
    rw (p.1, p.2) (progress_fault _ (lru_lines-next (c.loop-i.i + 1) c.args.lru.now c.loop-i.i _ c.loop-i-test.true) c.loop-i.invariant c.in_err-print_faults.ensures)

pub loop-i-preserved : goal.loop-i-preserved
loop-i-preserved g c = progress_more _ (lru_lines-next (c.loop-i.i + 1) c.args.lru.now c.loop-i.i _ c.loop-i-test.true) c.loop-i.invariant c.in_ok-print_faults.ensures

pub returns : goal.returns
returns g c =
    let none : drop c.loop-i.i c.args.lru.now ≡ [] = drop_all _ _ c.loop-i-test.false in
    progress_all (rw none at c.loop-i.invariant)
