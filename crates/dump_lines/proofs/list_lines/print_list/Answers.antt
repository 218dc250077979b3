use Rattle.std.specs.List.{flat_map}
use Rattle.std.proofs.lemmas.Result.{err_from_is_err_and}
use Rattle.outside_io.proofs.WritesInTurn.{writes_then, writes_fault}
use Rattle.dump_lines.specs.ListLines.{on_line}
use Rattle.dump_lines.proofs.list_lines.print_list.Goals as goal

pub returns-in_err-print_head : goal.returns-in_err-print_head
returns-in_err-print_head g c =
    let p = err_from_is_err_and c.from_residual.result c.from_residual.ensures.1 in
    rw (p.1, p.2) (writes_fault (flat_map on_line c.args.members.now) c.in_err-print_head.ensures)

pub returns : goal.returns
returns g c = writes_then c.in_ok-print_head.ensures c.print_members.ensures
