-- The printed text of a run: entry lines, the report, the lines after it, and the status. Each line ends with
-- byte 10. This project's own.
use Rattle.std.specs.Prelude.{ℕ, ◌+◌, List, [], ◌∷◌, ◌++◌, Option, Some, None, length, reverse, slice_index_or, codes, decimal}
use Rattle.std.specs.List.{flat_map}
use Rattle.vm_types.specs.declared.names.Page.{Page}
use Rattle.vm_types.specs.declared.names.FrameState.{FrameState}
use Rattle.vm_types.specs.declared.names.FrameState.TheVariants as state
use Rattle.vm_types.specs.declared.config.Config.{Config}
use Rattle.vm_types.specs.declared.config.Section.{Section}
use Rattle.vm_journal.specs.declared.entry.Entry.{Entry}
use Rattle.vm_journal.specs.Line.{line_text}
use Rattle.vm_text.specs.Names.{process_name, page_text}
use Rattle.vm_text.specs.States.{state_word, status_word, mark_text}
use Rattle.vm_types.specs.declared.config.Config.{Config}
use Rattle.pager_model.specs.Report.{FrameRow, ProcessRow, Report, report_of}
use Rattle.pager_model.specs.Run.{pager_after}
use Rattle.pager_model.specs.DirtyPages.{dirty_pages}

abbrev pub ended : List ℕ → List ℕ
ended line = line ++ 10 ∷ []

-- the lines of entries, the first of which has this number
abbrev pub entry_lines : ℕ → ℕ → List Section → List Entry → List ℕ
entry_lines number procs names [] = []
entry_lines number procs names (e ∷ entries) = ended (line_text number e procs names) ++ entry_lines (number + 1) procs names entries

-- the line of a frame that holds a page
abbrev pub held_text : List Section → ℕ → FrameRow → Page → List ℕ
held_text names f row page =
    codes "FRAME " ++ decimal f ++ codes " " ++ state_word row.state ++ codes " " ++ page_text names page
    ++ codes " MODIFY " ++ mark_text row.modify ++ codes " REFS " ++ decimal row.refs ++ codes " SHARES " ++ decimal row.shares

-- a bad frame has a line, another one only where it holds a page
abbrev pub empty_text : ℕ → FrameState → List ℕ
empty_text f state.Bad = ended (codes "FRAME " ++ decimal f ++ codes " BAD")
empty_text f other = []

abbrev pub frame_line : List Section → ℕ → FrameRow → List ℕ
frame_line names f row = line_by row.page where
  line_by : Option Page → List ℕ
  line_by None = empty_text f row.state
  line_by (Some page) = ended (held_text names f row page)

-- in number order, from this number on
abbrev pub frame_lines : List Section → ℕ → List FrameRow → List ℕ
frame_lines names f [] = []
frame_lines names f (row ∷ rows) = frame_line names f row ++ frame_lines names (f + 1) rows

-- how many frames are in each state, in the order of the states' codes
abbrev pub states_text : List ℕ → List ℕ
states_text counts =
    codes "FREE " ++ decimal (slice_index_or counts 0 0) ++ codes " MODIFIED " ++ decimal (slice_index_or counts 1 0)
    ++ codes " BAD " ++ decimal (slice_index_or counts 2 0) ++ codes " RELEASE " ++ decimal (slice_index_or counts 3 0)
    ++ codes " READERROR " ++ decimal (slice_index_or counts 4 0) ++ codes " WRITING " ++ decimal (slice_index_or counts 5 0)
    ++ codes " READING " ++ decimal (slice_index_or counts 6 0) ++ codes " ACTIVE " ++ decimal (slice_index_or counts 7 0)

abbrev pub process_text : ℕ → ProcessRow → List ℕ
process_text p row =
    codes "PROCESS " ++ process_name p ++ codes " " ++ status_word row.status ++ codes " COUNT " ++ decimal row.count ++ codes " LIMIT " ++ decimal row.limit

abbrev pub process_lines : ℕ → List ProcessRow → List ℕ
process_lines p [] = []
process_lines p (row ∷ rows) = ended (process_text p row) ++ process_lines (p + 1) rows

abbrev pub page_file_text : Report → List ℕ
page_file_text report =
    codes "PAGEFILE " ++ decimal report.size ++ codes " CHARGED " ++ decimal report.charged ++ codes " ASSIGNED " ++ decimal report.assigned

-- the report's lines
abbrev pub report_text : List Section → Report → List ℕ
report_text names report =
    ended (codes "PFN AT " ++ decimal report.at) ++ ended (states_text report.states) ++ frame_lines names 0 report.frames
    ++ ended (page_file_text report) ++ process_lines 0 report.processes

abbrev pub dirty_lines : List Section → List Page → List ℕ
dirty_lines names pages = flat_map (λ page. ended (codes "DIRTY " ++ page_text names page)) pages

abbrev pub status_line : ℕ → List ℕ
status_line n = ended (codes "STATUS " ++ decimal n)

-- the text of a run: the entries up to the report's place, the report there, the entries after it, a line for
-- each dirty page, and the status; both lists have the newest entry first
abbrev pub run_text : Config → List Entry → List Entry → ℕ → List ℕ
run_text config past rest n =
    entry_lines 1 (length config.procs) config.sections (reverse past)
    ++ report_text config.sections (report_of config past (pager_after config past))
    ++ entry_lines (length past + 1) (length config.procs) config.sections (reverse rest)
    ++ dirty_lines config.sections (dirty_pages config (pager_after config (rest ++ past)))
    ++ status_line n
