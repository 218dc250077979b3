use Rattle.std.proofs.Common.{◌≡◌, ◌++◌, [], drop, refl, ◌∙◌, ap, append-nil, arith}
use Rattle.std.proofs.lemmas.List.{drop_all}
use Rattle.std.proofs.lemmas.Result.{err_from_is_err_and}
use Rattle.run_words.specs.Text.{entry_lines}
use Rattle.outside_io.proofs.WritesInTurn.{progress_none, progress_more, progress_fault}
use Rattle.run_text.proofs.LinesLeft.{entry_lines-kept, progress_as, progress_last}
use Rattle.run_text.proofs.entries.print_entries.Goals as goal
use Rattle.run_text.proofs.entries.print_entries.Goals.{then-remaining_capacity-lt160+in_ok-write_lines, else-remaining_capacity-lt160}

pub loop-e-init : goal.loop-e-init
loop-e-init g c = rw c.new-lines.ensures (record { number = omega arith; room = omega arith; progress = progress_none _ _ })

pub returns-in_err-write_lines : goal.returns-in_err-write_lines
returns-in_err-write_lines g c =
    let p = err_from_is_err_and c.from_residual.result c.from_residual.ensures.1 in
    let kept = entry_lines-kept c.loop-e.number c.args.procs c.args.names.now c.args.entries.now c.loop-e.e-index _ c.loop-e.lines.items c.push_line.new.lines.items c.loop-e-test.true c.push_line.ensures in
    rw (p.1, p.2) (progress_fault _ refl (progress_as kept c.loop-e.invariant.progress) c.in_err-write_lines.ensures)

pub loop-e-preserved : goal.loop-e-preserved
loop-e-preserved g c =
    let kept = entry_lines-kept c.loop-e.number c.args.procs c.args.names.now c.args.entries.now c.loop-e.e-index _ c.loop-e.lines.items c.push_line.new.lines.items c.loop-e-test.true c.push_line.ensures in
    let before = progress_as kept c.loop-e.invariant.progress in
    elim c.if-remaining_capacity-lt160.branch [
      | then-remaining_capacity-lt160+in_ok-write_lines w ↦ rw (w.sink-is, w.lines-is, w.clear.ensures) (record {
        number = omega arith;
        room = omega arith;
        progress = progress_more _ refl before w.in_ok-write_lines.ensures;
      })
      | else-remaining_capacity-lt160 w ↦ rw (w.sink-is, w.lines-is) (record { number = omega arith; room = omega arith; progress = before })
    ]

pub returns : goal.returns
returns g c =
    let none : drop c.loop-e.e-index c.args.entries.now ≡ [] = drop_all _ _ c.loop-e-test.false in
    let kept : c.loop-e.lines.items ++ entry_lines c.loop-e.number c.args.procs c.args.names.now (drop c.loop-e.e-index c.args.entries.now) ≡ c.loop-e.lines.items =
    ap (λ left. c.loop-e.lines.items ++ entry_lines c.loop-e.number c.args.procs c.args.names.now left) none ∙ append-nil c.loop-e.lines.items in
    progress_last (progress_as kept c.loop-e.invariant.progress) c.write_lines-2.ensures
