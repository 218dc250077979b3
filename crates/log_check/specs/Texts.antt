-- A line taken off a text. This project's own.
use Rattle.std.specs.Prelude.{◌≡◌, ℕ, Bool, true, false, List, ◌++◌}
use Rattle.run_words.specs.Text.{ended}

-- the text begins with the line and the byte 10 behind it
abbrev pub Begins : List ℕ → List ℕ → Type 0
Begins text line = (left : List ℕ) × (text ≡ ended line ++ left)

-- the line is taken, and what is left is left; or the text doesn't begin so, and all of it is left
abbrev pub IsLineTaken : List ℕ → List ℕ → Bool → List ℕ → Type 0
IsLineTaken old line true new = old ≡ ended line ++ new
IsLineTaken old line false new = (Begins old line → ⊥) × (new ≡ old)
