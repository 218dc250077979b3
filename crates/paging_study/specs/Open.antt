-- The set of the intervals that are kept so far, by their ends. This project's own.
use Rattle.std.specs.Prelude.{◌≡◌, ℕ, suc, Bool, true, false, ◌<◌, ◌≤◌, ◌==◌, ◌&&◌, nat_lt, nat_le, not, List, slice_index_or}
use Rattle.paging_study.specs.Places.{count_places}
use Rattle.paging_study.specs.Intervals.{begins}
use Rattle.paging_study.specs.Least.{is_dropped}

-- the set has those of the places that pass the test, and nothing else; it stands as a flag for each place
pub record HoldsPlaces (ends : List Bool) (test : ℕ → Bool) (places : ℕ) : Type 0 where
  pub has_it : (i : ℕ) → i < places → slice_index_or ends i false ≡ test (suc i)
  pub only : (i : ℕ) → slice_index_or ends i false ≡ true → i < places

-- the interval began at one of the places 1 to n, ends after n, and was dropped at none of them
abbrev pub is_pending : (ℕ → ℕ) → (ℕ → ℕ) → ℕ → ℕ → Bool
is_pending page drop n end = ((nat_le 1 (begins page end) && nat_lt (begins page end) (suc n)) && nat_lt n end) && not (is_dropped drop n end)

-- the greatest leaves if there are more than there is room for; it is the result, 0 if none leaves
pub record LosesLast (old new : List Bool) (room result : ℕ) (test : ℕ → Bool) (places : ℕ) : Type 0 where
  pub left : HoldsPlaces new (λ end. test end && not (end == result)) places
  pub none : count_places test places ≤ room → result ≡ 0
  pub exists : result ≤ places
  pub was_there : room < count_places test places → test result ≡ true
  pub last : (i : ℕ) → i < places → test (suc i) ≡ true → room < count_places test places → suc i ≤ result
