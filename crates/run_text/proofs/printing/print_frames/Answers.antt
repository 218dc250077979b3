use Rattle.std.proofs.Common.{◌≡◌, [], drop}
use Rattle.std.proofs.lemmas.List.{drop_all}
use Rattle.std.proofs.lemmas.Result.{err_from_is_err_and}
use Rattle.run_text.proofs.RowsLeft.{frame_lines-next}
use Rattle.run_text.proofs.PrintableRows.{printable_at}
use Rattle.outside_io.proofs.WritesInTurn.{progress_none, progress_more, progress_fault, progress_all}
use Rattle.run_text.proofs.printing.print_frames.Goals as goal

pub loop-f-init : goal.loop-f-init
loop-f-init g c = progress_none _ _

pub print_frame-requires : goal.print_frame-requires
print_frame-requires g c = printable_at c.args.names.now c.args.frames.now c.loop-f.f _ c.requires c.loop-f-test.true

pub returns-in_err-print_frame : goal.returns-in_err-print_frame
returns-in_err-print_frame g c =
    let p = err_from_is_err_and c.from_residual.result c.from_residual.ensures.1 in
    rw (p.1, p.2) (progress_fault _ (frame_lines-next c.args.names.now c.args.frames.now c.loop-f.f _ c.loop-f-test.true) c.loop-f.invariant c.in_err-print_frame.ensures)

pub loop-f-preserved : goal.loop-f-preserved
loop-f-preserved g c = progress_more _ (frame_lines-next c.args.names.now c.args.frames.now c.loop-f.f _ c.loop-f-test.true) c.loop-f.invariant c.in_ok-print_frame.ensures

pub returns : goal.returns
returns g c =
    let none : drop c.loop-f.f c.args.frames.now ≡ [] = drop_all _ _ c.loop-f-test.false in
    progress_all (rw none at c.loop-f.invariant)
