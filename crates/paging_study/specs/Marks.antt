-- Marks on places, counted in groups. This project's own.
use Rattle.std.specs.Prelude.{◌≡◌, ℕ, ◌+◌, ◌*◌, ◌<◌, Bool, List, length, slice_index}
use Rattle.paging_study.specs.Places.{flag_at, count_places}

-- each count is how many places of its group are marked, a group having so many places
abbrev pub AreGroupCounts : ℕ → List Bool → List ℕ → Type 0
AreGroupCounts size flags counts = (g : ℕ) → g < length counts → count_places (flag_at flags) (g * size) + slice_index counts g ≡ count_places (flag_at flags) (g * size + size)
