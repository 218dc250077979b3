use Rattle.std.proofs.lemmas.Result.{err_from_is_err_and}
use Rattle.outside_io.proofs.WritesInTurn.{progress_more, progress_fault}
use Rattle.dump_bytes.proofs.Writing.{processes-next}
use Rattle.dump_bytes.proofs.write.write_processes.Goals as goal

pub returns-in_err-write_process : goal.returns-in_err-write_process
returns-in_err-write_process g c =
    let p = err_from_is_err_and c.from_residual.result c.from_residual.ensures.1 in
    let next = processes-next c.args.procs.now c.loop-proc.proc-index c.proc-item.result c.loop-proc-test.true c.proc-item.is in
    rw (p.1, p.2) (progress_fault _ next c.loop-proc.invariant c.in_err-write_process.ensures)

pub loop-proc-preserved : goal.loop-proc-preserved
loop-proc-preserved g c =
    let next = processes-next c.args.procs.now c.loop-proc.proc-index c.proc-item.result c.loop-proc-test.true c.proc-item.is in
    progress_more _ next c.loop-proc.invariant c.in_ok-write_process.ensures
