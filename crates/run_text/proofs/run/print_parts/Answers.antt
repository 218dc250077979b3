use Rattle.std.proofs.Common.{ℕ, ◌+◌, List, length}
use Rattle.std.proofs.lemmas.Result.{err_from_is_err_and}
use Rattle.vm_types.specs.declared.config.Section.{Section}
use Rattle.vm_journal.specs.declared.entry.Entry.{Entry}
use Rattle.run_words.specs.Text.{dirty_lines, entry_lines, report_text}
use Rattle.outside_io.proofs.WritesInTurn.{writes_then, writes_fault}
use Rattle.run_text.proofs.run.print_parts.Goals as goal

abbrev later : ℕ → List Section → List Entry → List Entry → List ℕ
later procs names before after = entry_lines (length before + 1) procs names after

pub returns-in_err-print_entries : goal.returns-in_err-print_entries
returns-in_err-print_entries g c =
    let p = err_from_is_err_and c.from_residual.result c.from_residual.ensures.1 in
    let failed = writes_fault (report_text c.args.names.now c.args.report.now) c.in_err-print_entries.ensures in
    rw (p.1, p.2) (writes_fault (dirty_lines c.args.names.now c.args.dirty.now)
    (writes_fault (later c.args.procs c.args.names.now c.args.before.now c.args.after.now) failed))

pub returns-in_err-print : goal.returns-in_err-print
returns-in_err-print g c =
    let p = err_from_is_err_and c.from_residual-in_err-print.result c.from_residual-in_err-print.ensures.1 in
    let failed = writes_then {two = report_text c.args.names.now c.args.report.now} c.in_ok-print_entries.ensures c.in_err-print.ensures in
    rw (p.1, p.2) (writes_fault (dirty_lines c.args.names.now c.args.dirty.now)
    (writes_fault (later c.args.procs c.args.names.now c.args.before.now c.args.after.now) failed))

pub returns-in_err-print_entries-2 : goal.returns-in_err-print_entries-2
returns-in_err-print_entries-2 g c =
    let p = err_from_is_err_and c.from_residual-in_err-print_entries-2.result c.from_residual-in_err-print_entries-2.ensures.1 in
    let before = writes_then {two = report_text c.args.names.now c.args.report.now} c.in_ok-print_entries.ensures c.in_ok-print.ensures in
    rw (p.1, p.2) (writes_fault (dirty_lines c.args.names.now c.args.dirty.now)
    (writes_then {two = later c.args.procs c.args.names.now c.args.before.now c.args.after.now} before c.in_err-print_entries-2.ensures))

pub returns : goal.returns
returns g c =
    let before = writes_then {two = report_text c.args.names.now c.args.report.now} c.in_ok-print_entries.ensures c.in_ok-print.ensures in
    let both = writes_then {two = later c.args.procs c.args.names.now c.args.before.now c.args.after.now} before c.in_ok-print_entries-2.ensures in
    writes_then both c.print_dirty.ensures
