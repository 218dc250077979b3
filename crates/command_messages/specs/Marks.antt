-- The mark below a word of a line. Source: this project's own.
use Rattle.std.specs.Prelude.{ℕ, ◌+◌, ◌-◌, ◌==◌, Bool, true, false, if◌then◌else◌, List, [], ◌∷◌, ◌++◌, length, replicate, codes}
use Rattle.trace_words.specs.Words.{is_blank}

-- what stands before the word that comes after so many words: behind a byte of a word, or not
abbrev pub before : ℕ → Bool → List ℕ → List ℕ
before words inside [] = []
before words inside (byte ∷ text) =
    if is_blank byte then byte ∷ before words false text else
    if inside then byte ∷ before words true text else
    if words == 0 then [] else byte ∷ before (words - 1) true text

-- a line with a mark below the word of this number of a line that stands behind four blanks; none for the line
-- as a whole, and behind the bytes that are there if the word isn't among them
abbrev pub mark_text : ℕ → List ℕ → List ℕ
mark_text word text = if word == 0 then [] else replicate (4 + length (before (word - 1) false text)) 32 ++ codes "^\n"
