use Rattle.std.proofs.Common.{◌≡◌, ℕ, List, [], ◌++◌, Result, Err, append-nil, append_assoc, ap, refl, ◌∙◌}
use Rattle.std.specs.Prelude.{codes}
use Rattle.std.proofs.lemmas.Result.{err_from_is_err_and}
use Rattle.outside_io.specs.declared.whole.WriteFault.{WriteFault}
use Rattle.outside_io.proofs.WritesInTurn.{writes_as, writes_then, writes_fault}
use Rattle.dump_lines.specs.Checks.{is_in}
use Rattle.dump_lines.specs.WrongLines.{wrong_line}
use Rattle.dump_lines.proofs.checks.print_checks.Goals as goal

abbrev line : ℕ → List ℕ → ℕ → ℕ → List ℕ
line f name kept recount = wrong_line (record { frame = f; name = name; kept = kept; recount = recount })

regroup : (a b c d : List ℕ) → a ++ b ++ c ++ d ≡ a ++ (b ++ (c ++ (d ++ [])))
regroup a b c d = simp (append_assoc, append-nil)

pub returns-in_err-print_check : goal.returns-in_err-print_check
returns-in_err-print_check g c =
    let p = err_from_is_err_and c.from_residual.result c.from_residual.ensures.1 in
    let failed0 = c.in_err-print_check.ensures in
    let failed1 = writes_fault (line c.args.f (codes "SHARES") c.args.row.shares c.args.again.shares) failed0 in
    let failed2 = writes_fault (line c.args.f (codes "FREE") (is_in c.args.row 0) c.args.again.free) failed1 in
    let failed3 = writes_fault (line c.args.f (codes "MODIFIED") (is_in c.args.row 1) c.args.again.modified) failed2 in
    let err : WriteFault → Result (Unit {0}) WriteFault = λ fault. Err fault in
    writes_as (p.1 ∙ ap err p.2) (regroup (line c.args.f (codes "REFS") c.args.row.refs c.args.again.refs) (line c.args.f (codes "SHARES") c.args.row.shares c.args.again.shares) (line c.args.f (codes "FREE") (is_in c.args.row 0) c.args.again.free) (line c.args.f (codes "MODIFIED") (is_in c.args.row 1) c.args.again.modified)) failed3

pub returns-in_err-print_check-2 : goal.returns-in_err-print_check-2
returns-in_err-print_check-2 g c =
    let p = err_from_is_err_and c.from_residual-in_err-print_check-2.result c.from_residual-in_err-print_check-2.ensures.1 in
    let done0 = c.in_ok-print_check.ensures in
    let failed1 = writes_then {two = line c.args.f (codes "SHARES") c.args.row.shares c.args.again.shares} done0 c.in_err-print_check-2.ensures in
    let failed2 = writes_fault (line c.args.f (codes "FREE") (is_in c.args.row 0) c.args.again.free) failed1 in
    let failed3 = writes_fault (line c.args.f (codes "MODIFIED") (is_in c.args.row 1) c.args.again.modified) failed2 in
    let err : WriteFault → Result (Unit {0}) WriteFault = λ fault. Err fault in
    writes_as (p.1 ∙ ap err p.2) (regroup (line c.args.f (codes "REFS") c.args.row.refs c.args.again.refs) (line c.args.f (codes "SHARES") c.args.row.shares c.args.again.shares) (line c.args.f (codes "FREE") (is_in c.args.row 0) c.args.again.free) (line c.args.f (codes "MODIFIED") (is_in c.args.row 1) c.args.again.modified)) failed3

pub returns-in_err-print_check-3 : goal.returns-in_err-print_check-3
returns-in_err-print_check-3 g c =
    let p = err_from_is_err_and c.from_residual-in_err-print_check-3.result c.from_residual-in_err-print_check-3.ensures.1 in
    let done0 = c.in_ok-print_check.ensures in
    let done1 = writes_then {two = line c.args.f (codes "SHARES") c.args.row.shares c.args.again.shares} done0 c.in_ok-print_check-2.ensures in
    let failed2 = writes_then {two = line c.args.f (codes "FREE") (is_in c.args.row 0) c.args.again.free} done1 (rw c.is_in.ensures at c.in_err-print_check-3.ensures) in
    let failed3 = writes_fault (line c.args.f (codes "MODIFIED") (is_in c.args.row 1) c.args.again.modified) failed2 in
    let err : WriteFault → Result (Unit {0}) WriteFault = λ fault. Err fault in
    writes_as (p.1 ∙ ap err p.2) (regroup (line c.args.f (codes "REFS") c.args.row.refs c.args.again.refs) (line c.args.f (codes "SHARES") c.args.row.shares c.args.again.shares) (line c.args.f (codes "FREE") (is_in c.args.row 0) c.args.again.free) (line c.args.f (codes "MODIFIED") (is_in c.args.row 1) c.args.again.modified)) failed3

pub returns : goal.returns
returns g c =
    let done0 = c.in_ok-print_check.ensures in
    let done1 = writes_then {two = line c.args.f (codes "SHARES") c.args.row.shares c.args.again.shares} done0 c.in_ok-print_check-2.ensures in
    let done2 = writes_then {two = line c.args.f (codes "FREE") (is_in c.args.row 0) c.args.again.free} done1 (rw c.is_in.ensures at c.in_ok-print_check-3.ensures) in
    writes_as refl (regroup (line c.args.f (codes "REFS") c.args.row.refs c.args.again.refs) (line c.args.f (codes "SHARES") c.args.row.shares c.args.again.shares) (line c.args.f (codes "FREE") (is_in c.args.row 0) c.args.again.free) (line c.args.f (codes "MODIFIED") (is_in c.args.row 1) c.args.again.modified)) (writes_then {two = line c.args.f (codes "MODIFIED") (is_in c.args.row 1) c.args.again.modified} done2 (rw c.is_in-2.ensures at c.print_check-4.ensures))
