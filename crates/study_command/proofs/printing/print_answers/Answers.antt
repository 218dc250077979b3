use Rattle.std.proofs.Common.{ℕ, List, codes}
use Rattle.std.proofs.lemmas.Result.{err_from_is_err_and}
use Rattle.outside_io.proofs.WritesInTurn.{writes_then, writes_fault}
use Rattle.study_command.specs.StudyText.{faults_line, lru_lines, place_lines}
use Rattle.study_command.specs.declared.answers.Answers.{Answers}
use Rattle.study_command.proofs.printing.print_answers.Goals as goal

abbrev ring : ℕ → Answers → List ℕ
ring frames a = faults_line (codes "RING ") frames a.ring

abbrev lru : Answers → List ℕ
lru a = lru_lines 1 a.lru.items

abbrev least : ℕ → Answers → List ℕ
least frames a = faults_line (codes "LEAST ") frames a.least.faults

abbrev drops : Answers → List ℕ
drops a = place_lines (codes "DROP ") a.drops.items

abbrev cuts : Answers → List ℕ
cuts a = place_lines (codes "CUT ") a.least.cuts.items

pub returns-in_err-print_pages : goal.returns-in_err-print_pages
returns-in_err-print_pages g c =
    let p = err_from_is_err_and c.from_residual.result c.from_residual.ensures.1 in
    let a = c.args.answers.now in
    let n = c.args.frames in
    rw (p.1, p.2) (writes_fault (cuts a) (writes_fault (drops a) (writes_fault (least n a) (writes_fault (lru a) (writes_fault (ring n a) c.in_err-print_pages.ensures)))))

pub returns-in_err-print_faults : goal.returns-in_err-print_faults
returns-in_err-print_faults g c =
    let p = err_from_is_err_and c.from_residual-in_err-print_faults.result c.from_residual-in_err-print_faults.ensures.1 in
    let a = c.args.answers.now in
    let n = c.args.frames in
    let failed = writes_then {two = ring n a} c.in_ok-print_pages.ensures c.in_err-print_faults.ensures in
    rw (p.1, p.2) (writes_fault (cuts a) (writes_fault (drops a) (writes_fault (least n a) (writes_fault (lru a) failed))))

pub returns-in_err-print_lru : goal.returns-in_err-print_lru
returns-in_err-print_lru g c =
    let p = err_from_is_err_and c.from_residual-in_err-print_lru.result c.from_residual-in_err-print_lru.ensures.1 in
    let a = c.args.answers.now in
    let n = c.args.frames in
    let before = writes_then {two = ring n a} c.in_ok-print_pages.ensures c.in_ok-print_faults.ensures in
    let failed = writes_then {two = lru a} before (rw c.deref.ensures.value at c.in_err-print_lru.ensures) in
    rw (p.1, p.2) (writes_fault (cuts a) (writes_fault (drops a) (writes_fault (least n a) failed)))

pub returns-in_err-print_faults-2 : goal.returns-in_err-print_faults-2
returns-in_err-print_faults-2 g c =
    let p = err_from_is_err_and c.from_residual-in_err-print_faults-2.result c.from_residual-in_err-print_faults-2.ensures.1 in
    let a = c.args.answers.now in
    let n = c.args.frames in
    let first = writes_then {two = ring n a} c.in_ok-print_pages.ensures c.in_ok-print_faults.ensures in
    let before = writes_then {two = lru a} first (rw c.deref.ensures.value at c.in_ok-print_lru.ensures) in
    let failed = writes_then {two = least n a} before c.in_err-print_faults-2.ensures in
    rw (p.1, p.2) (writes_fault (cuts a) (writes_fault (drops a) failed))

pub returns-in_err-print_places : goal.returns-in_err-print_places
returns-in_err-print_places g c =
    let p = err_from_is_err_and c.from_residual-in_err-print_places.result c.from_residual-in_err-print_places.ensures.1 in
    let a = c.args.answers.now in
    let n = c.args.frames in
    let first = writes_then {two = ring n a} c.in_ok-print_pages.ensures c.in_ok-print_faults.ensures in
    let second = writes_then {two = lru a} first (rw c.deref.ensures.value at c.in_ok-print_lru.ensures) in
    let before = writes_then {two = least n a} second c.in_ok-print_faults-2.ensures in
    let failed = writes_then {two = drops a} before (rw c.deref-2.ensures.value at c.in_err-print_places.ensures) in
    rw (p.1, p.2) (writes_fault (cuts a) failed)

pub returns : goal.returns
returns g c =
    let a = c.args.answers.now in
    let n = c.args.frames in
    let first = writes_then {two = ring n a} c.in_ok-print_pages.ensures c.in_ok-print_faults.ensures in
    let second = writes_then {two = lru a} first (rw c.deref.ensures.value at c.in_ok-print_lru.ensures) in
    let third = writes_then {two = least n a} second c.in_ok-print_faults-2.ensures in
    let fourth = writes_then {two = drops a} third (rw c.deref-2.ensures.value at c.in_ok-print_places.ensures) in
    writes_then {two = cuts a} fourth (rw c.deref-3.ensures.value at c.print_places-2.ensures)
