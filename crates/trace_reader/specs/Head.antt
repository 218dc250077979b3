-- What a text means that begins with a trace and goes on with a log: a configuration and the log behind the
-- line LOG, a first faulty line with what is wrong with it, or unfinished. Source: this project's own.
use Rattle.std.specs.Prelude.{ℕ, ◌+◌, List, [], ◌∷◌, Result, Ok, Err, codes, if◌then◌else◌}
use Rattle.std.specs.List.{join_with_byte}
use Rattle.vm_types.specs.declared.config.Config.{Config}
use Rattle.trace_words.specs.declared.cause.Cause.{Cause}
use Rattle.trace_lines.specs.declared.breach.Breach.{Breach}
use Rattle.trace_words.specs.declared.cause.Cause.TheVariants.{UnknownWord, Misplaced}
use Rattle.trace_words.specs.Words.{is, words}
use Rattle.trace_lines.specs.declared.part.Part.{Part}
use Rattle.trace_lines.specs.declared.places.Place.{Place}
use Rattle.trace_lines.specs.declared.places.Place.TheVariants.{Ended}
use Rattle.trace_lines.specs.Breaches.{at_word}
use Rattle.trace_lines.specs.Grammar.{content}
use Rattle.trace_reader.specs.Changes.{start}
use Rattle.trace_reader.specs.Meaning.{lines, next_line}

-- a line before the log: the log is behind it, or the trace goes on with these declarations, or it is faulty
pub data HeadLine : Type 0 where
  begins_log : HeadLine
  goes_on : Part → HeadLine
  is_faulty : Breach → HeadLine

abbrev pub stands_alone : List (List ℕ) → HeadLine
stands_alone [] = begins_log
stands_alone (word ∷ more) = is_faulty (at_word 2 Misplaced)

-- a line after END whose first word no line of a trace has: the one word LOG begins the log
abbrev pub by_log_word : List (List ℕ) → HeadLine
by_log_word [] = is_faulty (at_word 1 UnknownWord)
by_log_word (first ∷ more) = if is first (codes "LOG") then stands_alone more else is_faulty (at_word 1 UnknownWord)

-- a line that breaks this rule of the trace
abbrev pub by_breach : Breach → Cause → Place → List (List ℕ) → HeadLine
by_breach breach UnknownWord Ended ws = by_log_word ws
by_breach breach cause place ws = is_faulty breach

-- by what it is as a line of the trace
abbrev pub by_trace : Result Part Breach → Place → List (List ℕ) → HeadLine
by_trace (Ok next) place ws = goes_on next
by_trace (Err breach) place ws = by_breach breach breach.cause place ws

abbrev pub head_line : ℕ → Part → List ℕ → HeadLine
head_line number part line = by_trace (next_line number part line) part.place (words (content line))

pub data Head : Type 0 where
  Configured : Config → List ℕ → Head
  Faulty : ℕ → Breach → Head
  Unfinished : Head

-- the meaning of a text from the line of this number on, by what that line is, and by the text behind it
abbrev pub after_line : HeadLine → ℕ → Part → List ℕ → (Part → Head) → Head
after_line begins_log number part behind rest = Configured part.config behind
after_line (goes_on next) number part behind rest = rest next
after_line (is_faulty breach) number part behind rest = Faulty number breach

-- the text ends with this part of a line: if it isn't empty it is the last line
abbrev pub head_at_end : ℕ → Part → List ℕ → Head
head_at_end number part [] = Unfinished
head_at_end number part (b ∷ bytes) = after_line (head_line number part (b ∷ bytes)) number part [] (λ next. Unfinished)

-- the lines from this number on, one after another
abbrev pub judge_head : ℕ → Part → List (List ℕ) → Head
judge_head number part [] = Unfinished
judge_head number part (last ∷ []) = head_at_end number part last
judge_head number part (line ∷ next ∷ more) =
    after_line (head_line number part line) number part (join_with_byte 10 (next ∷ more)) (λ p. judge_head (number + 1) p (next ∷ more))

abbrev pub head_of : List ℕ → Head
head_of text = judge_head 1 start (lines text)
