-- The first of the lines that are left, and those behind it.
use Rattle.std.proofs.Common.{◌≡◌, ℕ, ◌+◌, ◌<◌, List, ◌∷◌, ◌++◌, length, get_or, drop, map, ap, add-one, drop-cons}
use Rattle.std.specs.Prelude.{codes}
use Rattle.std.proofs.lemmas.List.{drop_more}
use Rattle.vm_types.specs.declared.config.Section.{Section}
use Rattle.vm_types.specs.declared.names.Page.{Page}
use Rattle.vm_text.specs.Names.{page_text}
use Rattle.run_words.specs.Text.{dirty_lines, ended, frame_line, frame_lines, process_text, process_lines}
use Rattle.run_text.specs.declared.report.FrameRow.{FrameRow}
use Rattle.run_text.specs.declared.report.ProcessRow.{ProcessRow}
use Rattle.run_text.specs.Rows.{frame_view, process_view}

drop-first : {X : Type 0} (xs : List X) (i : ℕ) (d : X) → i < length xs → drop i xs ≡ get_or xs i d ∷ drop (i + 1) xs
drop-first xs i d within = rw add-one (drop-cons xs i d within)

pub frame_lines-next : (names : List Section) (rows : List FrameRow) (i : ℕ) (d : FrameRow) → i < length rows
    → frame_lines names i (map frame_view (drop i rows))
    ≡ frame_line names i (frame_view (get_or rows i d)) ++ frame_lines names (i + 1) (map frame_view (drop (i + 1) rows))
frame_lines-next names rows i d within = ap (λ rows. frame_lines names i (map frame_view rows)) (drop-first rows i d within)

pub process_lines-next : (rows : List ProcessRow) (i : ℕ) (d : ProcessRow) → i < length rows
    → process_lines i (map process_view (drop i rows))
    ≡ ended (process_text i (process_view (get_or rows i d))) ++ process_lines (i + 1) (map process_view (drop (i + 1) rows))
process_lines-next rows i d within = ap (λ rows. process_lines i (map process_view rows)) (drop-first rows i d within)

pub dirty_lines-next : (names : List Section) (pages : List Page) (i : ℕ) (d : Page) → i < length pages
    → dirty_lines names (drop i pages) ≡ ended (codes "DIRTY " ++ page_text names (get_or pages i d)) ++ dirty_lines names (drop (i + 1) pages)
dirty_lines-next names pages i d within = ap (dirty_lines names) (drop_more pages i d within)
