-- The words of a command line in one text of bytes. Source: this project's own.
use Rattle.std.specs.Prelude.{◌≡◌, ◌⊎◌, ℕ, ◌==◌, List, [], ◌∷◌, All, if◌then◌else◌}
use Rattle.std.specs.Str.{IsUtf8}

-- the words that begin with this byte's word
abbrev pub with_byte : ℕ → List (List ℕ) → List (List ℕ)
with_byte byte [] = (byte ∷ []) ∷ []
with_byte byte (word ∷ words) = (byte ∷ word) ∷ words

-- the words of a text: each ends at a zero byte, and the last one there or at the text's end
abbrev pub words_of : List ℕ → List (List ℕ)
words_of [] = []
words_of (byte ∷ text) = if byte == 0 then [] ∷ words_of text else with_byte byte (words_of text)

-- the words that are handed over: those of the text, or none if one of them isn't UTF-8, since they
-- are no command line then
abbrev pub IsCommandLine : List ℕ → List (List ℕ) → Type 0
IsCommandLine text words =
    ((words ≡ words_of text) × All IsUtf8 (words_of text)) ⊎ ((words ≡ []) × (All IsUtf8 (words_of text) → ⊥))
