-- Numbers as bits of words. This project's own.
use Rattle.std.specs.Prelude.{◌≡◌, ℕ, suc, zero, ◌*◌, ◌/◌, ◌%◌, ◌≤◌, Bool, ◌==◌, nat_lt, List, [], ◌∷◌, ◌++◌, length, slice_index}
use Rattle.std.specs.Int.{bit_at}
use Rattle.paging_study.specs.Places.{flag_at, count_places}

-- whether the bit of the number is set, 64 numbers to a word
abbrev pub is_set : List ℕ → ℕ → Bool
is_set words n = bit_at (slice_index words (n / 64)) (n % 64) == 1

-- what the test says of each number below n
abbrev pub flags_to : (ℕ → Bool) → ℕ → List Bool
flags_to test zero = []
flags_to test (suc n) = flags_to test n ++ test n ∷ []

abbrev pub flags_of : List ℕ → List Bool
flags_of words = flags_to (is_set words) (length words * 64)

-- the bits of these tops say which of the words have a bit set
abbrev pub AreTops : List ℕ → List ℕ → Type 0
AreTops words tops = (g : ℕ) → is_set tops g ≡ nat_lt 0 (slice_index words g)

-- bits for the words, bits for the words of those, and so once more, in one word, and how many bits of the words
-- are set
pub record AreLevels (words tops roots crowns : List ℕ) (count : ℕ) : Type 0 where
  pub tops_are : AreTops words tops
  pub roots_are : AreTops tops roots
  pub crowns_are : AreTops roots crowns
  pub count_is : count ≡ count_places (flag_at (flags_of words)) (length (flags_of words))
  pub tops_len : length words ≤ length tops * 64
  pub roots_len : length tops ≤ length roots * 64
  pub crowns_len : length roots ≤ length crowns * 64
  pub one_crown : length crowns ≡ 1
