-- A row of a report that has a text can be printed.
use Rattle.std.proofs.Common.{ℕ, ◌<◌, List, length, get_or, map, sym, subst}
use Rattle.std.specs.Prelude.{All}
use Rattle.std.proofs.lemmas.List.{get_or-map, length-map}
use Rattle.vm_types.specs.declared.config.Section.{Section}
use Rattle.pager_model.specs.Report as model
use Rattle.run_text.specs.Printable.{IsPrintableRow}
use Rattle.run_text.specs.Rows.{frame_view}
use Rattle.run_text.specs.declared.report.FrameRow.{FrameRow}

pub printable_at : (names : List Section) (rows : List FrameRow) (f : ℕ) (d : FrameRow) → All (IsPrintableRow names) (map frame_view rows) → f < length rows → IsPrintableRow names (frame_view (get_or rows f d))
printable_at names rows f d all within =
    subst (λ (row : model.FrameRow). IsPrintableRow names row) (get_or-map frame_view rows f d (frame_view d) within)
    (all f (frame_view d) (subst (λ (n : ℕ). f < n) (sym (length-map rows frame_view)) within))
