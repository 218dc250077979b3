-- Which words of a command line are handed over. Source: this project's own.
use Rattle.std.specs.Prelude.{◌≡◌, ◌⊎◌, ℕ, List, [], ◌∷◌, None, Some, IfSome, All, drop}
use Rattle.std.specs.declared.option.Option.{Option}
use Rattle.std.specs.Str.{IsUtf8}

-- if the words are told, this was the first of those left, or none was left
abbrev pub TakesWord : Option (List (List ℕ)) → Option (List (List ℕ)) → Option (List ℕ) → Type 0
TakesWord before after None = IfSome before (λ all. all ≡ [])
TakesWord before after (Some word) = IfSome before (λ all. (rest : List (List ℕ)) × (all ≡ word ∷ rest) × (after ≡ Some rest))

-- the words after the program's own name, whatever that name is; none if one of them isn't UTF-8,
-- since they are no command line then
abbrev pub HandsOver : List (List ℕ) → List (List ℕ) → Type 0
HandsOver all words = ((words ≡ drop 1 all) × All IsUtf8 (drop 1 all)) ⊎ ((words ≡ []) × (All IsUtf8 (drop 1 all) → ⊥))
