use Rattle.std.proofs.lemmas.Result.{err_from_is_err_and}
use Rattle.outside_io.proofs.WritesInTurn.{progress_more, progress_fault}
use Rattle.dump_bytes.specs.Text.{number}
use Rattle.dump_bytes.proofs.Writing.{texts-next}
use Rattle.dump_bytes.proofs.write.write_numbers.Goals as goal

pub returns-in_err-write_number : goal.returns-in_err-write_number
returns-in_err-write_number g c =
    let p = err_from_is_err_and c.from_residual.result c.from_residual.ensures.1 in
    let next = texts-next number c.args.numbers.now c.loop-n.n-index _ c.loop-n-test.true in
    rw (p.1, p.2) (progress_fault _ next c.loop-n.invariant c.in_err-write_number.ensures)

pub loop-n-preserved : goal.loop-n-preserved
loop-n-preserved g c =
    let next = texts-next number c.args.numbers.now c.loop-n.n-index _ c.loop-n-test.true in
    progress_more _ next c.loop-n.invariant c.in_ok-write_number.ensures
