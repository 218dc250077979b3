-- Options with a value behind a command's name, each once and in any order. Source: the rules of the
-- usual command lines.
use Rattle.std.specs.Prelude.{◌≡◌, ◌≢◌, ◌⊎◌, ◌<◌, ℕ, false, List, [], ◌∷◌, ◌++◌, All, IsPermutation, codes, length, nat_eq, slice_index, zip}
use Rattle.std.specs.List.{IsDistinct, list_any}
use Rattle.std.specs.Str.{bytes_eq}

-- a word that can be a value by itself: it doesn't begin with a hyphen, or is a hyphen alone
abbrev pub IsValueWord : List ℕ → Type 0
IsValueWord word = (word ≡ codes "-") ⊎ (slice_index word 0 ≢ 45)

-- the words begin with the option and its value, which are one word with = between them, or two, and
-- the rest follows
abbrev pub BeginsOption : List ℕ → List ℕ → List (List ℕ) → List (List ℕ) → Type 0
BeginsOption name value words rest =
    (words ≡ (codes "--" ++ (name ++ (codes "=" ++ value))) ∷ rest)
    ⊎ ((words ≡ (codes "--" ++ name) ∷ value ∷ rest) × IsValueWord value)

-- the words are these options with these values, one after the other, and nothing else
abbrev pub AreInOrder : List (List ℕ × List ℕ) → List (List ℕ) → Type 0
AreInOrder [] words = words ≡ []
AreInOrder (option ∷ options) words = (rest : List (List ℕ)) × (BeginsOption option.0 option.1 words rest × AreInOrder options rest)

-- the words are the options with these names, each once and in any order, and each has the value that
-- stands in its name's place
pub record HasOptions (names values words : List (List ℕ)) : Type 0 where
  pub order : List (List ℕ × List ℕ)
  pub counted : length values ≡ length names
  pub each_once : IsPermutation (zip names values) order
  pub spelled : AreInOrder order words

-- a name is some text without =
abbrev pub IsName : List ℕ → Type 0
IsName name = (0 < length name) × (list_any (λ b. nat_eq b 61) name ≡ false)

-- names of options, no two of them the same
pub record AreNames (names : List (List ℕ)) : Type 0 where
  pub spelled : All IsName names
  pub differ : IsDistinct bytes_eq names
