use Rattle.std.proofs.Common.{◌≡◌, [], drop}
use Rattle.std.proofs.lemmas.List.{drop_all}
use Rattle.std.proofs.lemmas.Result.{err_from_is_err_and}
use Rattle.outside_io.proofs.WritesInTurn.{progress_none, progress_more, progress_fault, progress_all}
use Rattle.dump_lines.proofs.LinesLeft.{slot_lines-next}
use Rattle.dump_lines.proofs.processes.print_slots.Goals as goal

pub loop-n-init : goal.loop-n-init
loop-n-init g c = progress_none _ _

pub print_slot-requires-clause-small : goal.print_slot-requires-clause-small
print_slot-requires-clause-small g c = c.requires.small c.loop-n.n _ c.loop-n-test.true

pub returns-in_err-print_slot : goal.returns-in_err-print_slot
returns-in_err-print_slot g c =
    let p = err_from_is_err_and c.from_residual.result c.from_residual.ensures.1 in
    rw (p.1, p.2) (progress_fault _ (slot_lines-next c.args.x c.args.slots.now c.loop-n.n _ c.loop-n-test.true) c.loop-n.invariant c.in_err-print_slot.ensures)

pub loop-n-preserved : goal.loop-n-preserved
loop-n-preserved g c = progress_more _ (slot_lines-next c.args.x c.args.slots.now c.loop-n.n _ c.loop-n-test.true) c.loop-n.invariant c.in_ok-print_slot.ensures

pub returns : goal.returns
returns g c =
    let none : drop c.loop-n.n c.args.slots.now ≡ [] = drop_all _ _ c.loop-n-test.false in
    progress_all (rw none at c.loop-n.invariant)
