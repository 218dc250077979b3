-- How a line parts into words. Source: this project's own.
use Rattle.std.specs.Prelude.{◌≡◌, ℕ, Bool, true, false, ◌==◌, ◌||◌, nat_lt, List, [], ◌∷◌, length, filter, Option, Some, None, option_map, bytes_eq, if◌then◌else◌}
use Rattle.std.specs.List.{slice_split}

-- a blank or a tab
abbrev pub is_blank : ℕ → Bool
is_blank b = (b == 32) || (b == 9)

-- the words of a text: what stands between its blanks and at its ends, if it isn't empty
abbrev pub words : List ℕ → List (List ℕ)
words text = filter (λ w. nat_lt 0 (length w)) (slice_split is_blank text)

-- whether the word is this one
abbrev pub is : List ℕ → List ℕ → Bool
is word name = bytes_eq word name

-- what stands before the first such byte, and what stands after it
abbrev pub cut_at : ℕ → List ℕ → Option (List ℕ × List ℕ)
cut_at byte [] = None
cut_at byte (b ∷ bytes) = if b == byte then Some ([], bytes) else option_map (λ p. (b ∷ p.0, p.1)) (cut_at byte bytes)

-- nothing, or a first byte that is no blank
abbrev pub BeginsWord : List ℕ → Type 0
BeginsWord [] = Unit {0}
BeginsWord (b ∷ bytes) = is_blank b ≡ false

-- a first byte that is a blank
abbrev pub BeginsBlank : List ℕ → Type 0
BeginsBlank [] = ⊥
BeginsBlank (b ∷ bytes) = is_blank b ≡ true
