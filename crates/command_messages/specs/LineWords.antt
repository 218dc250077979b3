-- The words of a line by its first bytes. Source: this project's own.
use Rattle.std.specs.Prelude.{ℕ, ◌-◌, ◌==◌, Bool, ◌&&◌, nat_le, List, [], ◌∷◌, length, Option, Some, None, Result, Ok, Err, if◌then◌else◌}
use Rattle.trace_words.specs.declared.cause.Cause.{Cause}
use Rattle.trace_words.specs.Number.{decimal, hexadecimal}
use Rattle.trace_words.specs.Words.{words}
use Rattle.trace_lines.specs.Grammar.{content}

-- a word that others may follow; none if it may be cut, which is the last of bytes that don't reach to the line's end
abbrev pub whole : Bool → List ℕ → List (List ℕ) → List ℕ
whole cut word more = if cut && (length more == 0) then [] else word

-- the word of this number among these
abbrev pub word_among : ℕ → Bool → List (List ℕ) → List ℕ
word_among number cut [] = []
word_among number cut (word ∷ more) = if number == 1 then whole cut word more else word_among (number - 1) cut more

-- the word of this number, from 1, of a line with these first bytes, of which there are 80 at most; none if it isn't
-- there as a whole
abbrev pub line_word : ℕ → List ℕ → List ℕ
line_word number text = word_among number (nat_le 80 (length text)) (words (content text))

-- what a word says, if it says a number
abbrev pub if_number : Result ℕ Cause → Option ℕ
if_number (Ok n) = Some n
if_number (Err cause) = None

-- the decimal number that is the word of this number, if it is one; and the hexadecimal one
abbrev pub line_number : ℕ → List ℕ → Option ℕ
line_number number text = if_number (decimal (line_word number text))

abbrev pub line_address : ℕ → List ℕ → Option ℕ
line_address number text = if_number (hexadecimal (line_word number text))
