use Rattle.std.proofs.lemmas.Result.{err_from_is_err_and}
use Rattle.outside_io.proofs.WritesInTurn.{progress_more, progress_fault}
use Rattle.study_command.proofs.Printed.{place_lines-next}
use Rattle.study_command.proofs.printing.print_places.Goals as goal

pub returns-in_err-print_place : goal.returns-in_err-print_place
returns-in_err-print_place g c =
    let p = err_from_is_err_and c.from_residual.result c.from_residual.ensures.1 in
    let next = place_lines-next c.args.word.now c.args.places.now c.loop-place.place-index _ c.loop-place-test.true in
    rw (p.1, p.2) (progress_fault _ next c.loop-place.invariant c.in_err-print_place.ensures)

pub loop-place-preserved : goal.loop-place-preserved
loop-place-preserved g c =
    let next = place_lines-next c.args.word.now c.args.places.now c.loop-place.place-index _ c.loop-place-test.true in
    progress_more _ next c.loop-place.invariant c.in_ok-print_place.ensures
