-- The first line of a text, and an entry's line.
use Rattle.std.proofs.Common.{◌≡◌, ◌≢◌, ℕ, ◌<◌, ◌≤◌, List, [], ◌∷◌, ◌++◌, All, eqb, get_or, length, decimal, refl, sym, ap, ◌∙◌, append_assoc, arith, ne_eqb, slice_index_or}
use Rattle.std.proofs.lemmas.Fmt.{decimal_nonempty}
use Rattle.std.proofs.lemmas.List.{get_or_append_left}
use Rattle.std.proofs.lemmas.List.Splits.{slice_split_none}
use Rattle.vm_types.specs.Configuration.{IsWellFormed}
use Rattle.vm_types.specs.declared.config.Config.{Config}
use Rattle.vm_types.specs.declared.names.Page.{Page}
use Rattle.vm_text.specs.Spaced.{spaced}
use Rattle.vm_text.proofs.Decimals.{byte_in}
use Rattle.vm_text.proofs.Printable.{config_names}
use Rattle.vm_journal.specs.declared.entry.Entry.{Entry}
use Rattle.vm_journal.specs.HasLine.{IsEntryNumber}
use Rattle.vm_journal.specs.Line.{entry_words}
use Rattle.entry_lines.proofs.OneToOne.{line_same}
use Rattle.outside_io.specs.LineText.{lines_of}
use Rattle.outside_io.proofs.Fronts.{line_first}
use Rattle.pager_model.specs.Run.{pager_after}
use Rattle.run_words.specs.Text.{dirty_lines, ended, status_line}
use Rattle.pager_model.specs.DirtyPages.{dirty_pages}
use Rattle.log_model.specs.NextLine.{IsFirstLine}
use Rattle.log_model.specs.Stand.{ending_after, report_after, status_of}
use Rattle.log_check.specs.EntryLine.{IsItsLine}
use Rattle.log_check.specs.Texts.{Begins}

pub first_of : (text line left : List ℕ) → All (λ b. b ≢ 10) line → text ≡ ended line ++ left → IsFirstLine text line left
first_of text line left plain is = record { whole = is; one = plain }

-- ---- a line is of one entry
pub one_entry : (config : Config) (number : ℕ) (line : List ℕ) (e f : Entry) → IsWellFormed config → IsEntryNumber number → IsItsLine config number line e → IsItsLine config number line f → e ≡ f
one_entry config number line e f formed small its other =
    (line_same (length config.procs) config.sections number number e f (config_names config formed) small small its.has other.has (sym its.text ∙ other.text)).1

-- ---- an entry's line begins with a digit, the report and the ending with a letter
entry_digit : (config : Config) (number : ℕ) (e : Entry) (text line : List ℕ) → IsEntryNumber number → IsItsLine config number line e → Begins text line → get_or text 0 0 ≤ 57
entry_digit config number e text line small its begins =
    let words : List ℕ = spaced (entry_words (length config.procs) config.sections e) in
    let some = decimal_nonempty number small in
    let digit = byte_in (decimal number) number small refl 0 some in
    let left : List ℕ = begins.0 in
    let whole : text ≡ decimal number ++ (words ++ (10 ∷ left)) =
    begins.1 ∙ (append_assoc line (10 ∷ []) left ∙ (ap (λ (xs : List ℕ). xs ++ (10 ∷ left)) its.text ∙ append_assoc (decimal number) words (10 ∷ left))) in
    let front : get_or text 0 0 ≡ get_or (decimal number) 0 0 = ap (λ (xs : List ℕ). get_or xs 0 0) whole ∙ get_or_append_left (decimal number) (words ++ (10 ∷ left)) 0 0 some in
    omega (arith, digit.1)

report_letter : (config : Config) (past : List Entry) → get_or (report_after config past) 0 0 ≡ 80
report_letter config past = refl

ending_letter : (config : Config) (past : List Entry) → 57 < get_or (ending_after config past) 0 0
ending_letter config past = by (dirty_pages config (pager_after config past))
  where
    by : (pages : List Page) → 57 < get_or (dirty_lines config.sections pages ++ status_line (status_of config (pager_after config past))) 0 0
    by [] = omega arith
    by (page ∷ pages) = omega arith

pub no_report : (config : Config) (past : List Entry) (number : ℕ) (e : Entry) (line : List ℕ) → IsEntryNumber number → IsItsLine config number line e → Begins (report_after config past) line → ⊥
no_report config past number e line small its begins =
    let digit = entry_digit config number e (report_after config past) line small its begins in
    omega (arith, report_letter config past)

pub no_ending : (config : Config) (past : List Entry) (number : ℕ) (e : Entry) (line : List ℕ) → IsEntryNumber number → IsItsLine config number line e → Begins (ending_after config past) line → ⊥
no_ending config past number e line small its begins =
    let digit = entry_digit config number e (ending_after config past) line small its begins in
    omega (arith, ending_letter config past)

-- ---- what stands before the first byte 10
pub whole_first : (text : List ℕ) → All (λ b. b ≢ 10) text → text ≡ slice_index_or (lines_of text) 0 []
whole_first text plain =
    sym (ap (λ (lines : List (List ℕ)). slice_index_or lines 0 []) (slice_split_none (λ b. eqb b 10) text (λ k d within. ne_eqb _ _ (plain k d within))))

pub cut_first : (text line back : List ℕ) → All (λ b. b ≢ 10) line → text ≡ line ++ 10 ∷ back → line ≡ slice_index_or (lines_of text) 0 []
cut_first text line back plain is = sym (ap (λ (lines : List (List ℕ)). slice_index_or lines 0 []) (ap lines_of is ∙ line_first line back plain))
