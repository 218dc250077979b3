-- The lines that are kept, the first of those that are left, and those behind it.
use Rattle.std.proofs.Common.{◌≡◌, ℕ, ◌+◌, ◌<◌, List, ◌++◌, length, get_or, drop, sym, ◌∙◌, ap, subst, append_assoc}
use Rattle.std.specs.Prelude.{Result}
use Rattle.std.proofs.lemmas.List.{drop_more}
use Rattle.vm_types.specs.declared.config.Section.{Section}
use Rattle.vm_journal.specs.declared.entry.Entry.{Entry}
use Rattle.vm_journal.specs.Line.{line_text}
use Rattle.outside_io.specs.declared.whole.WriteFault.{WriteFault}
use Rattle.outside_io.specs.Views.{SinkView}
use Rattle.outside_io.specs.Writes.{Writes}
use Rattle.outside_io.proofs.WritesInTurn.{Progress, writes_then}
use Rattle.run_words.specs.Text.{ended, entry_lines}

entry_lines-next : (number procs : ℕ) (names : List Section) (entries : List Entry) (i : ℕ) (d : Entry) → i < length entries
    → entry_lines number procs names (drop i entries)
    ≡ ended (line_text number (get_or entries i d) procs names) ++ entry_lines (number + 1) procs names (drop (i + 1) entries)
entry_lines-next number procs names entries i d within = ap (entry_lines number procs names) (drop_more entries i d within)

-- the first line that is left is kept too
pub entry_lines-kept : (number procs : ℕ) (names : List Section) (entries : List Entry) (i : ℕ) (d : Entry) (kept more : List ℕ)
    → i < length entries → more ≡ kept ++ ended (line_text number (get_or entries i d) procs names)
    → kept ++ entry_lines number procs names (drop i entries) ≡ more ++ entry_lines (number + 1) procs names (drop (i + 1) entries)
entry_lines-kept number procs names entries i d kept more within added =
    ap (λ (left : List ℕ). kept ++ left) (entry_lines-next number procs names entries i d within)
    ∙ sym (append_assoc kept (ended (line_text number (get_or entries i d) procs names)) (entry_lines (number + 1) procs names (drop (i + 1) entries)))
    ∙ ap (λ (front : List ℕ). front ++ entry_lines (number + 1) procs names (drop (i + 1) entries)) (sym added)

-- what is left, in other words
pub progress_as : {a b : SinkView} {whole left same : List ℕ} → left ≡ same → Progress a b whole left → Progress a b whole same
progress_as e before =
    record {
      written = before.written;
      parts = before.parts ∙ ap (λ (left : List ℕ). before.written ++ left) e;
      so_far = before.so_far;
    }

-- all that is left was written last, whatever the answer
pub progress_last : {a b c : SinkView} {whole left : List ℕ} {result : Result (Unit {0}) WriteFault}
    → Progress a b whole left → Writes b c result left → Writes a c result whole
progress_last {a} {b} {c} {whole} {left} {result} before last =
    subst (λ (text : List ℕ). Writes a c result text) (sym before.parts) (writes_then before.so_far last)
