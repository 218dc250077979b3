-- What the lines of a log so far say. A journal's past is its list of entries, the newest first. This
-- project's own.
use Rattle.std.specs.Prelude.{ℕ, List, [], ◌∷◌, ◌++◌, length, if◌then◌else◌, nat_eq}
use Rattle.vm_types.specs.declared.config.Config.{Config}
use Rattle.vm_journal.specs.declared.entry.Entry.{Entry}
use Rattle.pager_model.specs.Pager.{Pager}
use Rattle.pager_model.specs.Report.{report_of}
use Rattle.pager_model.specs.Run.{pager_after}
use Rattle.run_words.specs.Text.{dirty_lines, report_text, status_line}
use Rattle.pager_model.specs.DirtyPages.{dirty_pages}

-- entries were read, and the report comes behind them; the report has begun, and this text of it is left; after
-- it entries of the rundown were read; after so many entries in all this text is left, DIRTY lines and the
-- status line
pub data Stand : Type 0 where
  in_entries : List Entry → Stand
  in_report : List Entry → List ℕ → Stand
  in_rundown : List Entry → List Entry → Stand
  in_ending : ℕ → List ℕ → Stand

-- the report's text, after the entries before it
abbrev pub report_after : Config → List Entry → List ℕ
report_after config past = report_text config.sections (report_of config past (pager_after config past))

-- 5 where a page is dirty, and else 0
abbrev pub status_of : Config → Pager → ℕ
status_of config a = if nat_eq (length (dirty_pages config a)) 0 then 0 else 5

-- the text behind the last entry
abbrev pub ending_after : Config → List Entry → List ℕ
ending_after config past =
    dirty_lines config.sections (dirty_pages config (pager_after config past)) ++ status_line (status_of config (pager_after config past))

-- once no text of the report is left, the rundown begins
abbrev pub reported : List Entry → List ℕ → Stand
reported past [] = in_rundown past []
reported past (b ∷ left) = in_report past (b ∷ left)
