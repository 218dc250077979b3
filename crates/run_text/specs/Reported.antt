-- A finished run and what was read off it. This project's own.
use Rattle.std.specs.Prelude.{◌≡◌, ℕ, List, ◌++◌, length, reverse}
use Rattle.vm_types.specs.Configuration.{IsWellFormed}
use Rattle.vm_types.specs.declared.config.Config.{Config}
use Rattle.vm_types.specs.declared.names.Page.{Page}
use Rattle.vm_journal.specs.declared.entry.Entry.{Entry}
use Rattle.pager_model.specs.Report.{Report, report_of}
use Rattle.pager_model.specs.Run.{IsRun, pager_after}
use Rattle.pager_model.specs.DirtyPages.{dirty_pages}
use Rattle.run_text.specs.Printable.{IsPrintable}

-- the past has the entries before the report's place and the rest those after it, both the newest first; the whole
-- list has the oldest first
pub record AreParts (entries : List Entry) (at : ℕ) (past rest : List Entry) : Type 0 where
  pub all : entries ≡ reverse (rest ++ past)
  pub place : at ≡ length past

-- these are the entries of a legal run, how many of them stand before the report, the report there, and the pages that
-- are dirty at the end
pub record IsReported (config : Config) (entries : List Entry) (at : ℕ) (report : Report) (dirty : List Page) : Type 0 where
  pub past : List Entry
  pub rest : List Entry
  pub parts : AreParts entries at past rest
  pub formed : IsWellFormed config
  pub legal : IsRun config (rest ++ past)
  pub recount : report ≡ report_of config past (pager_after config past)
  pub printable : IsPrintable config.sections report
  pub last : dirty ≡ dirty_pages config (pager_after config (rest ++ past))
