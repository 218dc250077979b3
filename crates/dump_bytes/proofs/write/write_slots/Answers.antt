use Rattle.std.proofs.lemmas.Result.{err_from_is_err_and}
use Rattle.outside_io.proofs.WritesInTurn.{progress_more, progress_fault}
use Rattle.dump_bytes.specs.Text.{slot_text}
use Rattle.dump_bytes.proofs.Writing.{texts-next}
use Rattle.dump_bytes.proofs.write.write_slots.Goals as goal

pub returns-in_err-write_row : goal.returns-in_err-write_row
returns-in_err-write_row g c =
    let p = err_from_is_err_and c.from_residual.result c.from_residual.ensures.1 in
    let next = texts-next slot_text c.args.slots.now c.loop-slot.slot-index _ c.loop-slot-test.true in
    rw (p.1, p.2) (progress_fault _ next c.loop-slot.invariant (rw c.slot_row.ensures at c.in_err-write_row.ensures))

pub loop-slot-preserved : goal.loop-slot-preserved
loop-slot-preserved g c =
    let next = texts-next slot_text c.args.slots.now c.loop-slot.slot-index _ c.loop-slot-test.true in
    progress_more _ next c.loop-slot.invariant (rw c.slot_row.ensures at c.in_ok-write_row.ensures)
