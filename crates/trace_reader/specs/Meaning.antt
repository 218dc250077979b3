-- What a text means as a trace: a configuration, a first faulty line with what is wrong with it, or unfinished.
-- Source: this project's own.
use Rattle.std.specs.Prelude.{ℕ, ◌+◌, ◌==◌, Bool, true, false, List, [], ◌∷◌, length, nat_le, Result, Ok, Err}
use Rattle.std.specs.List.{slice_split}
use Rattle.vm_types.specs.declared.config.Config.{Config}
use Rattle.trace_lines.specs.declared.breach.Breach.{Breach}
use Rattle.trace_words.specs.Judged.{◌>>=◌}
use Rattle.trace_lines.specs.declared.part.Part.{Part}
use Rattle.trace_lines.specs.declared.places.Place.{Place}
use Rattle.trace_lines.specs.declared.places.Place.TheVariants.{Version, Frames, PageFile, Declarations, Requests, Ended}
use Rattle.trace_lines.specs.Grammar.{judged}
use Rattle.trace_reader.specs.Changes.{start, changed}

-- exactly one of three: a configuration, a first faulty line with what is wrong with it, unfinished
pub data Trace : Type 0 where
  Configuration : Config → Trace
  Faulty : ℕ → Breach → Trace
  Unfinished : Trace

-- the declarations after the line of this number
abbrev pub next_line : ℕ → Part → List ℕ → Result Part Breach
next_line number part line = judged number part line >>= λ says. Ok (changed part says)

-- the text ends after whole lines
abbrev pub finished : Place → Config → Trace
finished Version config = Unfinished
finished Frames config = Unfinished
finished PageFile config = Unfinished
finished Declarations config = Unfinished
finished Requests config = Unfinished
finished Ended config = Configuration config

-- the meaning of a text from the line of this number on, by what that line declares
abbrev pub after : ℕ → Result Part Breach → (Part → Trace) → Trace
after number (Ok part) rest = rest part
after number (Err breach) rest = Faulty number breach

-- the text ends with this part of a line: if it isn't empty it is the last line
abbrev pub at_end : ℕ → Part → List ℕ → Trace
at_end number part [] = finished part.place part.config
at_end number part (b ∷ bytes) = after number (next_line number part (b ∷ bytes)) (λ p. finished p.place p.config)

-- the lines from this number on, one after another
abbrev pub judge : ℕ → Part → List (List ℕ) → Trace
judge number part [] = at_end number part []
judge number part (last ∷ []) = at_end number part last
judge number part (line ∷ next ∷ more) = after number (next_line number part line) (λ p. judge (number + 1) p (next ∷ more))

-- what stands between the bytes 10, and at the text's ends
abbrev pub lines : List ℕ → List (List ℕ)
lines text = slice_split (λ b. b == 10) text

-- lines end with byte 10, the last may end with the text
abbrev pub trace_of : List ℕ → Trace
trace_of text = judge 1 start (lines text)

-- no line is at fault so far
abbrev pub open_after : Result Part Breach → (Part → Bool) → Bool
open_after (Ok part) rest = rest part
open_after (Err breach) rest = false

-- a line that has begun is at fault once it has 256 bytes
abbrev pub is_open : ℕ → Part → List (List ℕ) → Bool
is_open number part [] = true
is_open number part (last ∷ []) = nat_le (length last) 255
is_open number part (line ∷ next ∷ more) = open_after (next_line number part line) (λ p. is_open (number + 1) p (next ∷ more))

-- no line of the text is at fault, whatever comes after it
abbrev pub shows_no_fault : List ℕ → Bool
shows_no_fault text = is_open 1 start (lines text)
