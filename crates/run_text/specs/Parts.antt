-- The text of a run by its parts, and the status at its end. This project's own.
use Rattle.std.specs.Prelude.{ℕ, ◌+◌, List, ◌++◌, length, nat_eq, if◌then◌else◌}
use Rattle.vm_types.specs.declared.config.Section.{Section}
use Rattle.vm_types.specs.declared.names.Page.{Page}
use Rattle.vm_journal.specs.declared.entry.Entry.{Entry}
use Rattle.pager_model.specs.Report.{Report}
use Rattle.run_words.specs.Text.{dirty_lines, entry_lines, report_text}

-- 0, and 5 if there is a page that is still held with modify set
abbrev pub run_status : List Page → ℕ
run_status dirty = if nat_eq (length dirty) 0 then 0 else 5

-- the lines before the status line: the entries before the report, the report, the entries after it, whose
-- numbers go on, and the dirty pages; both lists of entries have the oldest first
abbrev pub parts_text : ℕ → List Section → List Entry → Report → List Entry → List Page → List ℕ
parts_text procs names before report after dirty =
    entry_lines 1 procs names before
    ++ report_text names report
    ++ entry_lines (length before + 1) procs names after
    ++ dirty_lines names dirty
