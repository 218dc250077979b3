use Rattle.std.proofs.lemmas.Result.{err_from_is_err_and}
use Rattle.outside_io.proofs.WritesInTurn.{progress_more, progress_fault}
use Rattle.dump_bytes.specs.Text.{frame_text}
use Rattle.dump_bytes.proofs.Writing.{texts-next}
use Rattle.dump_bytes.proofs.write.write_frames.Goals as goal

pub returns-in_err-write_row : goal.returns-in_err-write_row
returns-in_err-write_row g c =
    let p = err_from_is_err_and c.from_residual.result c.from_residual.ensures.1 in
    let next = texts-next frame_text c.args.frames.now c.loop-frame.frame-index _ c.loop-frame-test.true in
    rw (p.1, p.2) (progress_fault _ next c.loop-frame.invariant (rw c.frame_row.ensures at c.in_err-write_row.ensures))

pub loop-frame-preserved : goal.loop-frame-preserved
loop-frame-preserved g c =
    let next = texts-next frame_text c.args.frames.now c.loop-frame.frame-index _ c.loop-frame-test.true in
    progress_more _ next c.loop-frame.invariant (rw c.frame_row.ensures at c.in_ok-write_row.ensures)
