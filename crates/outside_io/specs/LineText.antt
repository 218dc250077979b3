-- The lines of a text, and the first bytes of one. Source: this project's own.
use Rattle.std.specs.Prelude.{ℕ, ◌-◌, ◌==◌, List, [], take, slice_index_or}
use Rattle.std.specs.List.{slice_split}

-- what stands between the bytes 10, and at the text's ends
abbrev pub lines_of : List ℕ → List (List ℕ)
lines_of text = slice_split (λ b. b == 10) text

-- the first 80 bytes of the line of this number, from 1; none, if the text has no such line
abbrev pub line_text : ℕ → List ℕ → List ℕ
line_text number text = take 80 (slice_index_or (lines_of text) (number - 1) [])
