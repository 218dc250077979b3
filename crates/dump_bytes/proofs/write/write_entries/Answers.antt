use Rattle.std.proofs.lemmas.Result.{err_from_is_err_and}
use Rattle.outside_io.proofs.WritesInTurn.{progress_more, progress_fault}
use Rattle.dump_bytes.specs.Text.{word_text}
use Rattle.dump_bytes.proofs.Writing.{texts-next}
use Rattle.dump_bytes.proofs.write.write_entries.Goals as goal

pub returns-in_err-write_row : goal.returns-in_err-write_row
returns-in_err-write_row g c =
    let p = err_from_is_err_and c.from_residual.result c.from_residual.ensures.1 in
    let next = texts-next word_text c.args.entries.now c.loop-entry.entry-index _ c.loop-entry-test.true in
    rw (p.1, p.2) (progress_fault _ next c.loop-entry.invariant (rw c.entry_row.ensures at c.in_err-write_row.ensures))

pub loop-entry-preserved : goal.loop-entry-preserved
loop-entry-preserved g c =
    let next = texts-next word_text c.args.entries.now c.loop-entry.entry-index _ c.loop-entry-test.true in
    progress_more _ next c.loop-entry.invariant (rw c.entry_row.ensures at c.in_ok-write_row.ensures)
