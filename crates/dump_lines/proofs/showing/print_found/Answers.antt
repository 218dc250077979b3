use Rattle.std.proofs.Common.{length, ap, sym, ◌∙◌}
use Rattle.std.proofs.lemmas.List.FromFn.{length-map-range_with_len}
use Rattle.std.proofs.lemmas.Result.{err_from_is_err_and}
use Rattle.outside_io.proofs.WritesInTurn.{writes_then, writes_fault}
use Rattle.dump_bytes.specs.declared.dump.FrameRec.{FrameRec}
use Rattle.dump_bytes.specs.Dumped.{dumped}
use Rattle.dump_lines.specs.declared.counts.Counts.{Counts}
use Rattle.dump_lines.specs.Counts.{counts_of}
use Rattle.dump_lines.specs.ShowText.{count_line}
use Rattle.dump_lines.specs.Wrong.{wrong_count}
use Rattle.dump_lines.proofs.showing.print_found.Goals as goal

pub print_wrong-requires-clause-same : goal.print_wrong-requires-clause-same
print_wrong-requires-clause-same g c =
    ap (length {A = Counts}) c.requires.recount ∙ (length-map-range_with_len (counts_of (dumped c.args.dump.now)) 0 _ ∙ ap (length {A = FrameRec}) (sym c.deref.ensures.value))

pub count_wrong-requires-clause-same : goal.count_wrong-requires-clause-same
count_wrong-requires-clause-same g c =
    ap (length {A = Counts}) c.requires.recount ∙ (length-map-range_with_len (counts_of (dumped c.args.dump.now)) 0 _ ∙ ap (length {A = FrameRec}) (sym c.deref-2.ensures.value))

pub returns-in_err-print_wrong : goal.returns-in_err-print_wrong
returns-in_err-print_wrong g c =
    let p = err_from_is_err_and c.from_residual.result c.from_residual.ensures.1 in
    rw (p.1, p.2) (writes_fault (count_line (wrong_count (dumped c.args.dump.now))) (rw (c.deref.ensures.value, c.requires.recount) at c.in_err-print_wrong.ensures))

pub returns : goal.returns
returns g c =
    let wrote = rw (c.deref.ensures.value, c.requires.recount) at c.in_ok-print_wrong.ensures in
    let counted = rw (c.deref-2.ensures.value, c.requires.recount) at c.count_wrong.ensures in
    writes_then {two = count_line (wrong_count (dumped c.args.dump.now))} wrote (rw counted at c.print_count.ensures)
