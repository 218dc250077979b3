-- Places that lie in runs of 64, one run after another in the order in which they were opened. No contract
-- of a public call names these definitions. This project's own.
use Rattle.std.specs.Prelude.{◌≡◌, ◌⊎◌, ℕ, ◌+◌, ◌*◌, ◌/◌, ◌%◌, ◌≤◌, List, Option, Some, None, IsSome, length, map, count_by, is_some, slice_index_or, option_and_then}
use Rattle.std.specs.List.{range_with_len}

-- the item of a place: none if its run isn't open
abbrev pub item_in : {X : Type 0} → List (Option ℕ) → List (Option X) → ℕ → Option X
item_in firsts items place = option_and_then (λ first. slice_index_or items (first + place % 64) None) (slice_index_or firsts (place / 64) None)

-- those of all places
unfoldable pub all_in : {X : Type 0} → List (Option ℕ) → List (Option X) → List (Option X)
all_in firsts items = map (item_in firsts items) (range_with_len 0 (length firsts * 64))

-- the run is open
abbrev pub IsOpen : List (Option ℕ) → ℕ → Type 0
IsOpen firsts run = IsSome (slice_index_or firsts run None)

-- two open runs don't overlap
abbrev pub AreApart : List (Option ℕ) → Type 0
AreApart firsts = (r s f g : ℕ) → slice_index_or firsts r None ≡ Some f → slice_index_or firsts s None ≡ Some g → (r ≡ s) ⊎ ((f + 64 ≤ g) ⊎ (g + 64 ≤ f))

-- the open runs lie in the list, which has room for all
pub record HasOpenRuns {X : Type 0} (firsts : List (Option ℕ)) (items : List (Option X)) (space : ℕ) : Type 0 where
  pub many : length items ≡ count_by is_some firsts * 64
  pub room : length firsts * 64 ≤ space
  pub within : (r f : ℕ) → slice_index_or firsts r None ≡ Some f → f + 64 ≤ length items
  pub apart : AreApart firsts
