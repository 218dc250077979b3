use Rattle.std.proofs.lemmas.Result.{err_from_is_err_and}
use Rattle.outside_io.proofs.WritesInTurn.{progress_more, progress_fault}
use Rattle.dump_lines.proofs.LinesLeft.{members-next}
use Rattle.dump_lines.proofs.list_lines.print_members.Goals as goal

pub returns-in_err-print_member : goal.returns-in_err-print_member
returns-in_err-print_member g c =
    let p = err_from_is_err_and c.from_residual.result c.from_residual.ensures.1 in
    rw (p.1, p.2) (progress_fault _ (members-next c.args.members.now c.loop-frame.frame-index _ c.loop-frame-test.true) c.loop-frame.invariant c.in_err-print_member.ensures)

pub loop-frame-preserved : goal.loop-frame-preserved
loop-frame-preserved g c = progress_more _ (members-next c.args.members.now c.loop-frame.frame-index _ c.loop-frame-test.true) c.loop-frame.invariant c.in_ok-print_member.ensures
