-- Each legal line has at most 255 bytes.
use Rattle.std.proofs.Common.{◌≡◌, inl, inr, ℕ, ◌+◌, ◌^◌, ◌<◌, ◌≤◌, List, [], ◌∷◌, ◌++◌, length, sym, subst, arith}
use Rattle.vm_types.specs.Configuration.{IsWellFormed}
use Rattle.vm_types.specs.declared.config.Config.{Config}
use Rattle.vm_text.proofs.Printable.{config_names}
use Rattle.vm_journal.specs.declared.entry.Entry.{Entry}
use Rattle.pager_model.specs.Run.{IsRun}
use Rattle.log_model.specs.Log.{AreLegal, most_lines}
use Rattle.log_model.specs.NextLine.{IsFirstLine, IsLineOf, IsNext}
use Rattle.log_model.specs.Stand.{Stand, ending_after, in_ending, in_entries, in_report, in_rundown, report_after, reported}
use Rattle.log_laws.specs.Laws.{LegalLinesAreShort}
use Rattle.log_laws.proofs.EntryWidths.{entry_short}
use Rattle.log_laws.proofs.Rooms.{Fits, IsShort, first_short, short_fits}
use Rattle.log_laws.proofs.ShortTexts.{ending_short, report_short}

-- so many entries at most, which are a run
record AreFew (config : Config) (past : List Entry) (count : ℕ) : Type 0 where
  pub run : IsRun config past
  pub few : length past ≤ count

-- what is known after so many legal lines
abbrev Known : Config → ℕ → Stand → Type 0
Known config count (in_entries past) = AreFew config past count
Known config count (in_report past left) = AreFew config past count × Fits 255 left
Known config count (in_rundown past rest) = AreFew config (rest ++ past) count
Known config count (in_ending n left) = Fits 255 left

reported_known : (config : Config) (past : List Entry) (count : ℕ) (left : List ℕ) → AreFew config past count → Fits 255 left → Known config count (reported past left)
reported_known config past count [] few fits = few
reported_known config past count (b ∷ left) few fits = (few, fits)

-- the line is short, and the same is known after it
abbrev Further : Config → ℕ → List ℕ → Stand → Type 0
Further config count line after = (length line ≤ 255) × Known config (count + 1) after

more : (config : Config) (past : List Entry) (count : ℕ) → AreFew config past count → AreFew config past (count + 1)
more config past count few = let less = few.few in record { run = few.run; few = omega arith }

further : (config : Config) (count : ℕ) (line : List ℕ) (s after : Stand) → after ≡ s → Further config count line s → Further config count line after
further config count line s after is known = subst (Further config count line) (sym is) known

module _ (config : Config) (formed : IsWellFormed config) where
  line_is_short : (number : ℕ) (past : List Entry) (e : Entry) (line : List ℕ) → number < 2 ^ 64 → IsLineOf config number e line → IsRun config (e ∷ past) → length line ≤ 255
  line_is_short number past e line small is run =
      subst (λ (xs : List ℕ). length xs ≤ 255) (sym is) (entry_short (length config.procs) config.sections (config_names config formed) number e small run.1.line)

  -- a first line of a text of short lines
  text_further : (text line left : List ℕ) → IsFirstLine text line left → IsShort text → (length line ≤ 255) × Fits 255 left
  text_further text line left first short = first_short text line left first (short_fits text short)

  next_known : (count : ℕ) (s : Stand) (line : List ℕ) (after : Stand) → count ≤ most_lines → Known config count s → IsNext config s line after → Further config count line after
  next_known count (in_entries past) line after most known (inl next) =
      let less = known.few in
      let run : IsRun config (next.0 ∷ past) = (known.run, next.1.legal) in
      further config count line (in_entries (next.0 ∷ past)) after next.2
      (line_is_short (length past + 1) past next.0 line (omega (arith, less, most)) next.1.text run, record { run = run; few = omega arith })
  next_known count (in_entries past) line after most known (inr next) =
      let less = known.few in
      let first = text_further (report_after config past) line next.0 next.1.text (report_short config past formed known.run (omega (arith, less, most))) in
      further config count line (reported past next.0) after next.2 (first.0, reported_known config past (count + 1) next.0 (more config past count known) first.1)
  next_known count (in_report past left) line after most known next =
      let first = first_short left line next.0 next.1 known.1 in
      further config count line (reported past next.0) after next.2 (first.0, reported_known config past (count + 1) next.0 (more config past count known.0) first.1)
  next_known count (in_rundown past rest) line after most known (inl next) =
      let less = known.few in
      let run : IsRun config (next.0 ∷ (rest ++ past)) = (known.run, next.1.legal) in
      further config count line (in_rundown past (next.0 ∷ rest)) after next.2
      (line_is_short (length (rest ++ past) + 1) (rest ++ past) next.0 line (omega (arith, less, most)) next.1.text run, record { run = run; few = omega arith })
  next_known count (in_rundown past rest) line after most known (inr next) =
      further config count line (in_ending (length (rest ++ past)) next.0) after next.2
      (text_further (ending_after config (rest ++ past)) line next.0 next.1.text (ending_short config (rest ++ past) formed known.run))
  next_known count (in_ending n left) line after most known next =
      further config count line (in_ending n next.0) after next.2 (first_short left line next.0 next.1 known)

  all_known : (lines : List (List ℕ)) (s : Stand) → AreLegal config lines s → length lines ≤ most_lines → Known config (length lines) s
  all_known [] s legal most = subst (Known config 0) (sym legal) (record { run = tt; few = omega arith })
  all_known (line ∷ lines) s legal most =
      let known = (next_known (length lines) legal.earlier line s (omega (arith, most)) (all_known lines legal.earlier legal.before (omega (arith, most))) legal.next).1 in
      subst (λ (n : ℕ). Known config n s) (omega arith) known

pub legal_lines_are_short : LegalLinesAreShort
legal_lines_are_short config lines line stand after formed legal next few =
    (next_known config formed (length lines) stand line after few (all_known config formed lines stand legal few) next).0
