-- One line more at the end of a text, one row more behind those of the frames, and the lines of a run.
use Rattle.std.proofs.Common.{◌≡◌, ℕ, ◌+◌, ◌<◌, List, [], ◌∷◌, ◌++◌, length, get_or, drop, map, reverse, sym, ap, ◌∙◌, subst, arith, append_assoc}
use Rattle.std.specs.Prelude.{All}
use Rattle.std.specs.List.{range_with_len}
use Rattle.std.proofs.lemmas.List.{drop_more}
use Rattle.std.proofs.lemmas.List.FromFn.{map-range_with_len_more}
use Rattle.vm_types.specs.Configuration.{IsWellFormed}
use Rattle.vm_types.specs.declared.config.Config.{Config}
use Rattle.vm_types.specs.declared.config.Section.{Section}
use Rattle.vm_text.specs.Named.{AreNames}
use Rattle.vm_journal.specs.HasLine.{HasLine}
use Rattle.vm_journal.specs.Line.{line_text}
use Rattle.vm_journal.specs.declared.entry.Entry.{Entry}
use Rattle.pager_model.specs.Run.{IsRun}
use Rattle.run_words.specs.Text.{ended, entry_lines}
use Rattle.pager_laws.specs.LineLaws.{RunsHaveLines}
use Rattle.seat_schedules.proofs.LinesOfRuns.{all_turned, are_names}

-- the text so far and the lines that are left are all lines, and so with one line more
pub line_added : (all text new : List ℕ) (number procs : ℕ) (names : List Section) (entries : List Entry) (i : ℕ) (d : Entry)
    → i < length entries → new ≡ text ++ ended (line_text number (get_or entries i d) procs names)
    → text ++ entry_lines number procs names (drop i entries) ≡ all → new ++ entry_lines (number + 1) procs names (drop (i + 1) entries) ≡ all
line_added all text new number procs names entries i d within made so_far =
    let line : List ℕ = ended (line_text number (get_or entries i d) procs names) in
    let rest : List ℕ = entry_lines (number + 1) procs names (drop (i + 1) entries) in
    let next : entry_lines number procs names (drop i entries) ≡ line ++ rest = ap (entry_lines number procs names) (drop_more entries i d within) in
    ap (λ (xs : List ℕ). xs ++ rest) made ∙ (append_assoc text line rest ∙ (ap (λ (xs : List ℕ). text ++ xs) (sym next) ∙ so_far))

pub row_added : {X : Type 0} (f : ℕ → X) (rows new : List X) (n : ℕ) (x : X) → new ≡ rows ++ x ∷ [] → rows ≡ map f (range_with_len 0 n) → x ≡ f n → new ≡ map f (range_with_len 0 (n + 1))
row_added f rows new n x is are one =
    is ∙ ((λ i. are i ++ one i ∷ []) ∙ sym (map-range_with_len_more f 0 n n (omega arith)))

pub names_given : (config : Config) (procs : ℕ) (names : List Section) → IsWellFormed config → procs ≡ length config.procs → names ≡ config.sections → AreNames procs names
names_given config procs names formed own named =
    subst (AreNames procs) (sym named) (subst (λ (n : ℕ). AreNames n config.sections) (sym own) (are_names config formed))

pub lines_given : RunsHaveLines → (config : Config) (past entries : List Entry) (procs : ℕ) (names : List Section) → IsRun config past → entries ≡ reverse past → procs ≡ length config.procs → names ≡ config.sections
    → All (HasLine procs names) entries
lines_given law config past entries procs names run is own named =
    subst (λ (ns : List Section). All (HasLine procs ns) entries) (sym named)
    (subst (λ (n : ℕ). All (HasLine n config.sections) entries) (sym own)
    (subst (All (HasLine (length config.procs) config.sections)) (sym is) (all_turned (HasLine (length config.procs) config.sections) past (law config past run))))

pub text_given : (config : Config) (past entries : List Entry) (procs : ℕ) (names : List Section) (text : List ℕ) → text ≡ entry_lines 1 procs names entries → entries ≡ reverse past → procs ≡ length config.procs → names ≡ config.sections
    → text ≡ entry_lines 1 (length config.procs) config.sections (reverse past)
text_given config past entries procs names text are is own named = are ∙ (λ i. entry_lines 1 (own i) (named i) (is i))
