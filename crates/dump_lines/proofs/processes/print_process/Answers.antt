use Rattle.std.proofs.lemmas.Result.{err_from_is_err_and}
use Rattle.outside_io.proofs.WritesInTurn.{writes_then, writes_fault}
use Rattle.dump_lines.specs.ProcessLines.{slot_lines}
use Rattle.dump_lines.proofs.processes.print_process.Goals as goal

pub returns-in_err-print_head : goal.returns-in_err-print_head
returns-in_err-print_head g c =
    let p = err_from_is_err_and c.from_residual.result c.from_residual.ensures.1 in
    rw (p.1, p.2) (writes_fault (slot_lines c.args.x 0 c.args.proc.now.slots.items) c.in_err-print_head.ensures)

pub returns : goal.returns
returns g c = writes_then {two = slot_lines c.args.x 0 c.args.proc.now.slots.items} c.in_ok-print_head.ensures (rw c.deref.ensures.value at c.print_slots.ensures)
