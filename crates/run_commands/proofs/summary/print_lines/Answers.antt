use Rattle.std.proofs.lemmas.Result.{err_from_is_err_and}
use Rattle.outside_io.proofs.WritesInTurn.{writes_then, writes_fault}
use Rattle.run_commands.specs.MakeText.{answered_line, entries_line, managed_line, paged_line}
use Rattle.run_commands.proofs.summary.print_lines.Goals as goal

pub returns-in_err-print_made : goal.returns-in_err-print_made
returns-in_err-print_made g c =
    let p = err_from_is_err_and c.from_residual.result c.from_residual.ensures.1 in
    let es = c.args.all in
    let n = c.args.counts.now in
    rw (p.1, p.2) (writes_fault (entries_line es) (writes_fault (managed_line n) (writes_fault (paged_line n) (writes_fault (answered_line n) c.in_err-print_made.ensures))))

pub returns-in_err-print_answered : goal.returns-in_err-print_answered
returns-in_err-print_answered g c =
    let p = err_from_is_err_and c.from_residual-in_err-print_answered.result c.from_residual-in_err-print_answered.ensures.1 in
    let es = c.args.all in
    let n = c.args.counts.now in
    let failed = writes_then {two = answered_line n} c.in_ok-print_made.ensures c.in_err-print_answered.ensures in
    rw (p.1, p.2) (writes_fault (entries_line es) (writes_fault (managed_line n) (writes_fault (paged_line n) failed)))

pub returns-in_err-print_paged : goal.returns-in_err-print_paged
returns-in_err-print_paged g c =
    let p = err_from_is_err_and c.from_residual-in_err-print_paged.result c.from_residual-in_err-print_paged.ensures.1 in
    let es = c.args.all in
    let n = c.args.counts.now in
    let before = writes_then {two = answered_line n} c.in_ok-print_made.ensures c.in_ok-print_answered.ensures in
    let failed = writes_then {two = paged_line n} before c.in_err-print_paged.ensures in
    rw (p.1, p.2) (writes_fault (entries_line es) (writes_fault (managed_line n) failed))

pub returns-in_err-print_managed : goal.returns-in_err-print_managed
returns-in_err-print_managed g c =
    let p = err_from_is_err_and c.from_residual-in_err-print_managed.result c.from_residual-in_err-print_managed.ensures.1 in
    let es = c.args.all in
    let n = c.args.counts.now in
    let first = writes_then {two = answered_line n} c.in_ok-print_made.ensures c.in_ok-print_answered.ensures in
    let before = writes_then {two = paged_line n} first c.in_ok-print_paged.ensures in
    let failed = writes_then {two = managed_line n} before c.in_err-print_managed.ensures in
    rw (p.1, p.2) (writes_fault (entries_line es) failed)

pub returns : goal.returns
returns g c =
    let es = c.args.all in
    let n = c.args.counts.now in
    let first = writes_then {two = answered_line n} c.in_ok-print_made.ensures c.in_ok-print_answered.ensures in
    let second = writes_then {two = paged_line n} first c.in_ok-print_paged.ensures in
    let third = writes_then {two = managed_line n} second c.in_ok-print_managed.ensures in
    writes_then {two = entries_line es} third c.print_all.ensures
