-- A line says one thing: what lines say determines, with the next line, what they say then.
use Rattle.std.proofs.Common.{◌≡◌, inl, inr, ℕ, ◌+◌, ◌<◌, ◌≤◌, true, List, [], ◌∷◌, ◌++◌, get_or, length, nat_lt, decimal, refl, sym, ap, ◌∙◌, subst, append_assoc, arith, ltb-true}
use Rattle.std.specs.List.{AllByRecursion}
use Rattle.std.proofs.lemmas.Bool.{and_parts}
use Rattle.std.proofs.lemmas.Fmt.{decimal_nonempty}
use Rattle.std.proofs.lemmas.List.{get_or_append_left}
use Rattle.vm_types.specs.declared.config.Config.{Config}
use Rattle.vm_types.specs.declared.config.Section.{Section}
use Rattle.vm_types.specs.declared.names.Page.{Page}
use Rattle.vm_text.specs.Named.{AreNames}
use Rattle.vm_text.specs.Spaced.{spaced}
use Rattle.vm_text.proofs.Blanks.{Blankless, above, decimal_above}
use Rattle.vm_text.proofs.Decimals.{byte_in}
use Rattle.vm_journal.specs.declared.entry.Entry.{Entry}
use Rattle.vm_journal.specs.HasLine.{HasLine, IsEntryNumber}
use Rattle.vm_journal.specs.Line.{entry_words, line_text}
use Rattle.entry_lines.proofs.LineWords.{entry_blankless}
use Rattle.entry_lines.proofs.OneToOne.{line_same}
use Rattle.pager_model.specs.Run.{pager_after}
use Rattle.run_words.specs.Text.{dirty_lines, status_line}
use Rattle.pager_model.specs.DirtyPages.{dirty_pages}
use Rattle.log_model.specs.Log.{AreLegal, most_lines}
use Rattle.log_model.specs.NextLine.{IsFirstLine, IsNext}
use Rattle.log_model.specs.Stand.{Stand, ending_after, in_ending, in_entries, in_report, in_rundown, report_after, reported, status_of}
use Rattle.log_laws.proofs.Texts.{IsPlain, line_joined, one_line, plain_line}

-- ---- no byte of an entry's line is 10
above_plain : (text : List ℕ) → above text ≡ true → IsPlain text
above_plain [] large = tt
above_plain (b ∷ text) large =
    let parts = and_parts (nat_lt 32 b) (above text) large in
    (λ ten. absurd (omega (arith, ltb-true 32 b parts.0)), above_plain text parts.1)

plain_join : (xs ys : List ℕ) → IsPlain xs → IsPlain ys → IsPlain (xs ++ ys)
plain_join [] ys plain also = also
plain_join (b ∷ xs) ys plain also = (plain.0, plain_join xs ys plain.1 also)

words_plain : (words : List (List ℕ)) → Blankless words → IsPlain (spaced words)
words_plain [] blankless = tt
words_plain (word ∷ words) blankless = (λ ten. absurd (omega arith), plain_join word (spaced words) (above_plain word blankless.0) (words_plain words blankless.1))

entry_plain : (procs : ℕ) (names : List Section) (number : ℕ) (e : Entry) → AreNames procs names → IsEntryNumber number → HasLine procs names e → IsPlain (line_text number e procs names)
entry_plain procs names number e are small has =
    plain_join (decimal number) (spaced (entry_words procs names e)) (above_plain (decimal number) (decimal_above number small)) (words_plain (entry_words procs names e) (entry_blankless procs names e are has))

-- ---- an entry's line begins with a digit, the report and the ending with a letter
line_digit : (procs : ℕ) (names : List Section) (number : ℕ) (e : Entry) (text line left : List ℕ) → IsEntryNumber number → line ≡ line_text number e procs names → IsFirstLine text line left → get_or text 0 0 ≤ 57
line_digit procs names number e text line left small is first =
    let words : List ℕ = spaced (entry_words procs names e) in
    let some = decimal_nonempty number small in
    let digit = byte_in (decimal number) number small refl 0 some in
    let whole : text ≡ decimal number ++ (words ++ (10 ∷ left)) =
    first.whole ∙ (line_joined line left ∙ (ap (λ (xs : List ℕ). xs ++ (10 ∷ left)) is ∙ append_assoc (decimal number) words (10 ∷ left))) in
    let front : get_or text 0 0 ≡ get_or (decimal number) 0 0 = ap (λ (xs : List ℕ). get_or xs 0 0) whole ∙ get_or_append_left (decimal number) (words ++ (10 ∷ left)) 0 0 some in
    omega (arith, digit.1)

report_letter : (config : Config) (past : List Entry) → get_or (report_after config past) 0 0 ≡ 80
report_letter config past = refl

ending_letter : (config : Config) (past : List Entry) → 57 < get_or (ending_after config past) 0 0
ending_letter config past = by (dirty_pages config (pager_after config past))
  where
    by : (pages : List Page) → 57 < get_or (dirty_lines config.sections pages ++ status_line (status_of config (pager_after config past))) 0 0
    by [] = omega arith
    by (page ∷ pages) = omega arith

-- ---- how many entries were read
abbrev pub entries_in : Stand → ℕ
entries_in (in_entries past) = length past
entries_in (in_report past left) = length past
entries_in (in_rundown past rest) = length (rest ++ past)
entries_in (in_ending n left) = n

reported_in : (past : List Entry) (left : List ℕ) → entries_in (reported past left) ≡ length past
reported_in past [] = refl
reported_in past (b ∷ left) = refl

next_in : (config : Config) (s : Stand) (line : List ℕ) (after : Stand) → IsNext config s line after → entries_in after ≤ entries_in s + 1
next_in config (in_entries past) line after (inl next) = let same = ap entries_in next.2 in omega arith
next_in config (in_entries past) line after (inr next) = let same = ap entries_in next.2 ∙ reported_in past next.0 in omega arith
next_in config (in_report past left) line after next = let same = ap entries_in next.2 ∙ reported_in past next.0 in omega arith
next_in config (in_rundown past rest) line after (inl next) = let same = ap entries_in next.2 in omega arith
next_in config (in_rundown past rest) line after (inr next) = let same = ap entries_in next.2 in omega arith
next_in config (in_ending n left) line after next = let same = ap entries_in next.2 in omega arith

pub legal_in : (config : Config) (lines : List (List ℕ)) (stand : Stand) → AreLegal config lines stand → entries_in stand ≤ length lines
legal_in config [] stand legal = let same = ap entries_in legal in omega arith
legal_in config (line ∷ lines) stand legal =
    let before = legal_in config lines legal.earlier legal.before in
    let more = next_in config legal.earlier line stand legal.next in
    omega arith

module _ (config : Config) (are : AreNames (length config.procs) config.sections) where
  pub next_plain : (s : Stand) (line : List ℕ) (after : Stand) → IsEntryNumber (entries_in s + 1) → IsNext config s line after → IsPlain line
  next_plain (in_entries past) line after small (inl next) = subst IsPlain (sym next.1.text) (entry_plain (length config.procs) config.sections (length past + 1) next.0 are small next.1.legal.line)
  next_plain (in_entries past) line after small (inr next) = plain_line (report_after config past) line next.0 next.1.text
  next_plain (in_report past left) line after small next = plain_line left line next.0 next.1
  next_plain (in_rundown past rest) line after small (inl next) = subst IsPlain (sym next.1.text) (entry_plain (length config.procs) config.sections (length (rest ++ past) + 1) next.0 are small next.1.legal.line)
  next_plain (in_rundown past rest) line after small (inr next) = plain_line (ending_after config (rest ++ past)) line next.0 next.1.text
  next_plain (in_ending n left) line after small next = plain_line left line next.0 next.1

  same_entry : (number : ℕ) (e f : Entry) (line : List ℕ) → IsEntryNumber number → HasLine (length config.procs) config.sections e → HasLine (length config.procs) config.sections f
      → line ≡ line_text number e (length config.procs) config.sections → line ≡ line_text number f (length config.procs) config.sections → e ≡ f
  same_entry number e f line small has also is other = (line_same (length config.procs) config.sections number number e f are small small has also (sym is ∙ other)).1

  same_left : (text line left rest : List ℕ) → IsFirstLine text line left → IsFirstLine text line rest → left ≡ rest
  same_left text line left rest first other =
      (one_line line line left rest (plain_line text line left first) (plain_line text line rest other) (sym first.whole ∙ other.whole)).same_left

  pub next_same : (s : Stand) (line : List ℕ) (after other : Stand) → IsEntryNumber (entries_in s + 1) → IsNext config s line after → IsNext config s line other → after ≡ other
  next_same (in_entries past) line after other small (inl one) (inl two) =
      one.2 ∙ (ap (λ (e : Entry). in_entries (e ∷ past)) (same_entry (length past + 1) one.0 two.0 line small one.1.legal.line two.1.legal.line one.1.text two.1.text) ∙ sym two.2)
  next_same (in_entries past) line after other small (inl one) (inr two) =
      let digit = line_digit (length config.procs) config.sections (length past + 1) one.0 (report_after config past) line two.0 small one.1.text two.1.text in
      absurd (omega (arith, report_letter config past))
  next_same (in_entries past) line after other small (inr one) (inl two) =
      let digit = line_digit (length config.procs) config.sections (length past + 1) two.0 (report_after config past) line one.0 small two.1.text one.1.text in
      absurd (omega (arith, report_letter config past))
  next_same (in_entries past) line after other small (inr one) (inr two) =
      one.2 ∙ (ap (λ (left : List ℕ). reported past left) (same_left (report_after config past) line one.0 two.0 one.1.text two.1.text) ∙ sym two.2)
  next_same (in_report past left) line after other small one two = one.2 ∙ (ap (λ (rest : List ℕ). reported past rest) (same_left left line one.0 two.0 one.1 two.1) ∙ sym two.2)
  next_same (in_rundown past rest) line after other small (inl one) (inl two) =
      one.2 ∙ (ap (λ (e : Entry). in_rundown past (e ∷ rest)) (same_entry (length (rest ++ past) + 1) one.0 two.0 line small one.1.legal.line two.1.legal.line one.1.text two.1.text) ∙ sym two.2)
  next_same (in_rundown past rest) line after other small (inl one) (inr two) =
      let digit = line_digit (length config.procs) config.sections (length (rest ++ past) + 1) one.0 (ending_after config (rest ++ past)) line two.0 small one.1.text two.1.text in
      absurd (omega (arith, ending_letter config (rest ++ past)))
  next_same (in_rundown past rest) line after other small (inr one) (inl two) =
      let digit = line_digit (length config.procs) config.sections (length (rest ++ past) + 1) two.0 (ending_after config (rest ++ past)) line one.0 small two.1.text one.1.text in
      absurd (omega (arith, ending_letter config (rest ++ past)))
  next_same (in_rundown past rest) line after other small (inr one) (inr two) =
      one.2 ∙ (ap (λ (left : List ℕ). in_ending (length (rest ++ past)) left) (same_left (ending_after config (rest ++ past)) line one.0 two.0 one.1.text two.1.text) ∙ sym two.2)
  next_same (in_ending n left) line after other small one two = one.2 ∙ (ap (λ (rest : List ℕ). in_ending n rest) (same_left left line one.0 two.0 one.1 two.1) ∙ sym two.2)

  -- ---- lines that are legal have no byte 10 and say one thing
  small_in : (lines : List (List ℕ)) (stand : Stand) → length lines ≤ most_lines → AreLegal config lines stand → IsEntryNumber (entries_in stand + 1)
  small_in lines stand few legal = let most = legal_in config lines stand legal in omega arith

  pub legal_plain : (lines : List (List ℕ)) (stand : Stand) → length lines ≤ most_lines → AreLegal config lines stand → AllByRecursion IsPlain lines
  legal_plain [] stand few legal = tt
  legal_plain (line ∷ lines) stand few legal =
      let fewer : length lines ≤ most_lines = omega arith in
      (next_plain legal.earlier line stand (small_in lines legal.earlier fewer legal.before) legal.next, legal_plain lines legal.earlier fewer legal.before)

  pub legal_same : (lines : List (List ℕ)) (stand other : Stand) → length lines ≤ most_lines → AreLegal config lines stand → AreLegal config lines other → stand ≡ other
  legal_same [] stand other few one two = one ∙ sym two
  legal_same (line ∷ lines) stand other few one two =
      let fewer : length lines ≤ most_lines = omega arith in
      let before = legal_same lines two.earlier one.earlier fewer two.before one.before in
      next_same one.earlier line stand other (small_in lines one.earlier fewer one.before) one.next (subst (λ (s : Stand). IsNext config s line other) before two.next)
