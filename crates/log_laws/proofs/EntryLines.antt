-- The lines of entries, one entry more, and which texts of a run are of whole lines.
use Rattle.std.proofs.Common.{◌≡◌, inl, inr, ℕ, ◌+◌, List, [], ◌∷◌, ◌++◌, length, reverse, codes, decimal, refl, sym, ap, ◌∙◌, append_assoc, append-nil, arith}
use Rattle.std.proofs.lemmas.List.{length-reverse, reverse-append}
use Rattle.vm_types.specs.declared.config.Config.{Config}
use Rattle.vm_types.specs.declared.config.Section.{Section}
use Rattle.vm_journal.specs.declared.entry.Entry.{Entry}
use Rattle.vm_journal.specs.Line.{line_text}
use Rattle.pager_model.specs.Report.{ProcessRow, Report, report_of}
use Rattle.pager_model.specs.Run.{pager_after}
use Rattle.run_words.specs.Text.{dirty_lines, ended, entry_lines, frame_lines, page_file_text, process_lines, process_text, states_text, status_line}
use Rattle.pager_model.specs.DirtyPages.{dirty_pages}
use Rattle.log_model.specs.Stand.{ending_after, report_after, status_of}
use Rattle.log_laws.proofs.Texts.{EndsLine, IsOfLines, behind_ends, both_end, ended_ends}

-- one entry behind others
pub one_behind : (number procs : ℕ) (names : List Section) (entries : List Entry) (e : Entry) → entry_lines number procs names (entries ++ (e ∷ [])) ≡ entry_lines number procs names entries ++ ended (line_text (number + length entries) e procs names)
one_behind number procs names [] e =
    append-nil (ended (line_text number e procs names)) ∙ ap (λ (n : ℕ). ended (line_text n e procs names)) (omega arith)
one_behind number procs names (first ∷ entries) e =
    let head : List ℕ = ended (line_text number first procs names) in
    ap (λ (text : List ℕ). head ++ text) (one_behind (number + 1) procs names entries e)
    ∙ (ap (λ (n : ℕ). head ++ (entry_lines (number + 1) procs names entries ++ ended (line_text n e procs names))) (omega arith)
    ∙ sym (append_assoc head (entry_lines (number + 1) procs names entries) (ended (line_text (number + length (first ∷ entries)) e procs names))))

-- one entry newer
pub one_newer : (number procs : ℕ) (names : List Section) (e : Entry) (past : List Entry) → entry_lines number procs names (reverse (e ∷ past)) ≡ entry_lines number procs names (reverse past) ++ ended (line_text (number + length past) e procs names)
one_newer number procs names e past =
    ap (entry_lines number procs names) (reverse-append (e ∷ []) past)
    ∙ (one_behind number procs names (reverse past) e
    ∙ ap (λ (n : ℕ). entry_lines number procs names (reverse past) ++ ended (line_text (number + n) e procs names)) (length-reverse past))

-- ---- the report and the ending are of whole lines
processes_end : (p : ℕ) (rows : List ProcessRow) → IsOfLines (process_lines p rows)
processes_end p [] = inl refl
processes_end p (row ∷ rows) = inr (both_end (ended (process_text p row)) (process_lines (p + 1) rows) (ended_ends (process_text p row)) (processes_end (p + 1) rows))

pub report_ends : (config : Config) (past : List Entry) → EndsLine (report_after config past)
report_ends config past =
    let report : Report = report_of config past (pager_after config past) in
    let front : List ℕ = (ended (codes "PFN AT " ++ decimal report.at) ++ ended (states_text report.states)) ++ frame_lines config.sections 0 report.frames in
    both_end (front ++ ended (page_file_text report)) (process_lines 0 report.processes) (behind_ends front (ended (page_file_text report)) (ended_ends (page_file_text report))) (processes_end 0 report.processes)

pub ending_ends : (config : Config) (past : List Entry) → EndsLine (ending_after config past)
ending_ends config past = behind_ends (dirty_lines config.sections (dirty_pages config (pager_after config past))) (status_line (status_of config (pager_after config past))) (ended_ends (codes "STATUS " ++ decimal (status_of config (pager_after config past))))
