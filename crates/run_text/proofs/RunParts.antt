-- The text of a run as its parts are written.
use Rattle.std.proofs.Common.{◌≡◌, ℕ, ◌+◌, ◌-◌, ◌<◌, List, ◌++◌, length, take, drop, sym, ◌∙◌, ap, subst, arith}
use Rattle.std.specs.Prelude.{All, reverse}
use Rattle.std.proofs.lemmas.List.{drop_at, get_or-reverse, length-reverse, reverse-append, reverse-reverse, take_at}
use Rattle.vm_types.specs.declared.config.Config.{Config}
use Rattle.vm_types.specs.declared.config.Section.{Section}
use Rattle.vm_types.specs.declared.names.Page.{Page}
use Rattle.vm_journal.specs.HasLine.{HasLine}
use Rattle.vm_journal.specs.declared.entry.Entry.{Entry}
use Rattle.pager_laws.proofs.RunLines.{run_lines}
use Rattle.pager_model.specs.Report.{Report, report_of}
use Rattle.pager_model.specs.Run.{IsRun, pager_after}
use Rattle.run_words.specs.Text.{dirty_lines, entry_lines, report_text, run_text, status_line}
use Rattle.pager_model.specs.DirtyPages.{dirty_pages}
use Rattle.run_text.specs.Parts.{parts_text}
use Rattle.run_text.specs.Reported.{AreParts}

-- the entries before the report, the oldest first, and those after it
pub first_part : (entries : List Entry) (at : ℕ) (past rest : List Entry) → AreParts entries at past rest → take at entries ≡ reverse past
first_part entries at past rest parts =
    ap (λ (n : ℕ). take n entries) parts.place ∙ ap (take (length past)) (parts.all ∙ reverse-append rest past)
    ∙ take_at (reverse past) (reverse rest) (length past) (length-reverse past)

pub second_part : (entries : List Entry) (at : ℕ) (past rest : List Entry) → AreParts entries at past rest → drop at entries ≡ reverse rest
second_part entries at past rest parts =
    ap (λ (n : ℕ). drop n entries) parts.place ∙ ap (drop (length past)) (parts.all ∙ reverse-append rest past)
    ∙ drop_at (reverse past) (reverse rest) (length past) (length-reverse past)

reversed : (xs ys : List Entry) → reverse xs ≡ reverse ys → xs ≡ ys
reversed xs ys same = sym (reverse-reverse xs) ∙ ap reverse same ∙ reverse-reverse ys

-- the parts are determined
pub same_past : (entries : List Entry) (at : ℕ) (past rest past' rest' : List Entry) → AreParts entries at past rest → AreParts entries at past' rest' → past ≡ past'
same_past entries at past rest past' rest' one other =
    reversed past past' (sym (first_part entries at past rest one) ∙ first_part entries at past' rest' other)

pub same_rest : (entries : List Entry) (at : ℕ) (past rest past' rest' : List Entry) → AreParts entries at past rest → AreParts entries at past' rest' → rest ≡ rest'
same_rest entries at past rest past' rest' one other =
    reversed rest rest' (sym (second_part entries at past rest one) ∙ second_part entries at past' rest' other)

All-reverse : {X : Type 0} (P : X → Type 0) (xs : List X) → All P xs → All P (reverse xs)
All-reverse P xs all k d h =
    let inside : k < length xs = omega (arith, length-reverse xs) in
    subst P (sym (get_or-reverse xs k d inside)) (all (length xs - 1 - k) d (omega arith))

-- all of a run's entries have lines, by what the printing calls are given
pub entries_have_lines : (config : Config) (past : List Entry) (entries : List Entry) (procs : ℕ) (names : List Section)
    → IsRun config past → entries ≡ reverse past → procs ≡ length config.procs → names ≡ config.sections
    → All (HasLine procs names) entries
entries_have_lines config past entries procs names run is own named =
    subst (λ (ns : List Section). All (HasLine procs ns) entries) (sym named)
    (subst (λ (n : ℕ). All (HasLine n config.sections) entries) (sym own)
    (subst (All (HasLine (length config.procs) config.sections)) (sym is)
    (All-reverse (HasLine (length config.procs) config.sections) past (run_lines config past run))))

-- the text of a run by what the printing calls are given
pub run_text_parts : (config : Config) (past rest : List Entry) (procs : ℕ) (names : List Section) (before : List Entry) (report : Report) (after : List Entry) (dirty : List Page) (n : ℕ)
    → procs ≡ length config.procs → names ≡ config.sections → before ≡ reverse past → report ≡ report_of config past (pager_after config past) → after ≡ reverse rest
    → dirty ≡ dirty_pages config (pager_after config (rest ++ past))
    → parts_text procs names before report after dirty ++ status_line n ≡ run_text config past rest n
run_text_parts config past rest procs names before report after dirty n own named first is second told =
    ap (λ (ps : ℕ). parts_text ps names before report after dirty ++ status_line n) own
    ∙ ap (λ (ns : List Section). parts_text (length config.procs) ns before report after dirty ++ status_line n) named
    ∙ ap (λ (es : List Entry). parts_text (length config.procs) config.sections es report after dirty ++ status_line n) first
    ∙ ap (λ (r : Report). parts_text (length config.procs) config.sections (reverse past) r after dirty ++ status_line n) is
    ∙ ap (λ (es : List Entry). parts_text (length config.procs) config.sections (reverse past) (report_of config past (pager_after config past)) es dirty ++ status_line n) second
    ∙ ap (λ (ds : List Page). parts_text (length config.procs) config.sections (reverse past) (report_of config past (pager_after config past)) (reverse rest) ds ++ status_line n) told
    ∙ numbers_go_on config past rest n where
      numbers_go_on : (config : Config) (past rest : List Entry) (n : ℕ)
          → parts_text (length config.procs) config.sections (reverse past) (report_of config past (pager_after config past)) (reverse rest) (dirty_pages config (pager_after config (rest ++ past))) ++ status_line n
          ≡ run_text config past rest n
      numbers_go_on config past rest n =
          ap (λ (k : ℕ). entry_lines 1 (length config.procs) config.sections (reverse past) ++ report_text config.sections (report_of config past (pager_after config past))
          ++ entry_lines (k + 1) (length config.procs) config.sections (reverse rest) ++ dirty_lines config.sections (dirty_pages config (pager_after config (rest ++ past))) ++ status_line n)
          (length-reverse past)
