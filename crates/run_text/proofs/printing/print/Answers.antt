use Rattle.std.proofs.Common.{ℕ, List, map, ap, ◌∙◌}
use Rattle.std.proofs.lemmas.Result.{err_from_is_err_and}
use Rattle.vm_types.specs.declared.config.Section.{Section}
use Rattle.pager_model.specs.Report.{Report}
use Rattle.run_words.specs.Text.{ended, frame_lines, page_file_text, process_lines, states_text}
use Rattle.outside_io.proofs.WritesInTurn.{writes_then, writes_fault}
use Rattle.run_text.specs.Rows.{frame_view, process_view}
use Rattle.run_text.proofs.printing.print.Goals as goal

abbrev states : Report → List ℕ
states report = ended (states_text report.states)

abbrev frames : List Section → Report → List ℕ
frames names report = frame_lines names 0 report.frames

abbrev page_file : Report → List ℕ
page_file report = ended (page_file_text report)

abbrev processes : Report → List ℕ
processes report = process_lines 0 report.processes

pub returns-in_err-print_at : goal.returns-in_err-print_at
returns-in_err-print_at g c =
    let p = err_from_is_err_and c.from_residual.result c.from_residual.ensures.1 in
    let report = c.args.report.now in
    let failed = writes_fault (frames c.args.names.now report) (writes_fault (states report) (rw (ap (λ (r : Report). r.at) c.report.view_is) at c.in_err-print_at.ensures)) in
    rw (p.1, p.2) (writes_fault (processes report) (writes_fault (page_file report) failed))

pub returns-in_err-print_states : goal.returns-in_err-print_states
returns-in_err-print_states g c =
    let p = err_from_is_err_and c.from_residual-in_err-print_states.result c.from_residual-in_err-print_states.ensures.1 in
    let report = c.args.report.now in
    let failed = writes_then {two = states c.args.report.now} (rw (ap (λ (r : Report). r.at) c.report.view_is) at c.in_ok-print_at.ensures) (rw (c.items.ensures ∙ ap (λ (r : Report). r.states) c.report.view_is) at c.in_err-print_states.ensures) in
    rw (p.1, p.2) (writes_fault (processes report) (writes_fault (page_file report) (writes_fault (frames c.args.names.now report) failed)))

pub returns-in_err-print_frames : goal.returns-in_err-print_frames
returns-in_err-print_frames g c =
    let p = err_from_is_err_and c.from_residual-in_err-print_frames.result c.from_residual-in_err-print_frames.ensures.1 in
    let report = c.args.report.now in
    let before = writes_then {two = states c.args.report.now} (rw (ap (λ (r : Report). r.at) c.report.view_is) at c.in_ok-print_at.ensures) (rw (c.items.ensures ∙ ap (λ (r : Report). r.states) c.report.view_is) at c.in_ok-print_states.ensures) in
    let failed = writes_then before (rw (ap (map frame_view) c.items-2.ensures ∙ ap (λ (r : Report). r.frames) c.report.view_is) at c.in_err-print_frames.ensures) in
    rw (p.1, p.2) (writes_fault (processes report) (writes_fault (page_file report) failed))

pub returns-in_err-print_page_file : goal.returns-in_err-print_page_file
returns-in_err-print_page_file g c =
    let p = err_from_is_err_and c.from_residual-in_err-print_page_file.result c.from_residual-in_err-print_page_file.ensures.1 in
    let first = writes_then {two = states c.args.report.now} (rw (ap (λ (r : Report). r.at) c.report.view_is) at c.in_ok-print_at.ensures) (rw (c.items.ensures ∙ ap (λ (r : Report). r.states) c.report.view_is) at c.in_ok-print_states.ensures) in
    let before = writes_then first (rw (ap (map frame_view) c.items-2.ensures ∙ ap (λ (r : Report). r.frames) c.report.view_is) at c.in_ok-print_frames.ensures) in
    rw (p.1, p.2) (writes_fault (processes c.args.report.now) (writes_then {two = page_file c.args.report.now} before c.in_err-print_page_file.ensures))

pub returns : goal.returns
returns g c =
    let first = writes_then {two = states c.args.report.now} (rw (ap (λ (r : Report). r.at) c.report.view_is) at c.in_ok-print_at.ensures) (rw (c.items.ensures ∙ ap (λ (r : Report). r.states) c.report.view_is) at c.in_ok-print_states.ensures) in
    let second = writes_then first (rw (ap (map frame_view) c.items-2.ensures ∙ ap (λ (r : Report). r.frames) c.report.view_is) at c.in_ok-print_frames.ensures) in
    let third = writes_then {two = page_file c.args.report.now} second c.in_ok-print_page_file.ensures in
    (writes_then third (rw (ap (map process_view) c.items-3.ensures ∙ ap (λ (r : Report). r.processes) c.report.view_is) at c.print_processes.ensures))
