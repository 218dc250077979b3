use Rattle.std.proofs.lemmas.Result.{err_from_is_err_and}
use Rattle.outside_io.proofs.WritesInTurn.{writes_then, writes_fault}
use Rattle.dump_bytes.specs.Dumped.{dumped}
use Rattle.dump_lines.specs.ShowText.{found_lines}
use Rattle.dump_lines.proofs.showing.print_all.Goals as goal

pub returns-in_err-print_held : goal.returns-in_err-print_held
returns-in_err-print_held g c =
    let p = err_from_is_err_and c.from_residual.result c.from_residual.ensures.1 in
    rw (p.1, p.2) (writes_fault (found_lines (dumped c.args.dump.now)) c.in_err-print_held.ensures)

pub returns : goal.returns
returns g c = writes_then {two = found_lines (dumped c.args.dump.now)} c.in_ok-print_held.ensures c.print_found.ensures
