-- When a report has a text. This project's own.
use Rattle.std.specs.Prelude.{◌≡◌, ◌≤◌, List, length, All, IfSome}
use Rattle.vm_types.specs.declared.config.Section.{Section}
use Rattle.vm_text.specs.Named.{IsPrintablePage}
use Rattle.pager_model.specs.Report.{FrameRow, Report}

-- the frame holds no page, or one that can be printed
abbrev pub IsPrintableRow : List Section → FrameRow → Type 0
IsPrintableRow names row = IfSome row.page (IsPrintablePage names)

-- a report of this shape has a text
pub record IsPrintable (names : List Section) (report : Report) : Type 0 where
  pub states : length report.states ≡ 8
  pub processes : length report.processes ≤ 16
  pub pages : All (IsPrintableRow names) report.frames
