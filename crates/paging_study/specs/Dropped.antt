-- The places at which an interval begins that is not kept. This project's own.
use Rattle.std.specs.Prelude.{ℕ, suc, zero, Bool, ◌==◌, ◌&&◌, not, List, [], ◌∷◌, ◌++◌, length, if◌then◌else◌}
use Rattle.paging_study.specs.Places.{page_at, flag_at, any_place}
use Rattle.paging_study.specs.Intervals.{begins}

-- an interval begins at the place, and is not kept
abbrev pub is_let_go : (ℕ → ℕ) → (ℕ → Bool) → ℕ → ℕ → Bool
is_let_go page kept places place = any_place (λ end. begins page end == place) places && not (kept place)

-- those of the places 1 to n that pass the test, in order
abbrev pub places_with : (ℕ → Bool) → ℕ → List ℕ
places_with test zero = []
places_with test (suc n) = places_with test n ++ (if test (suc n) then suc n ∷ [] else [])

abbrev pub dropped_places : List ℕ → List Bool → List ℕ
dropped_places pages kept = places_with (is_let_go (page_at pages) (flag_at kept) (length pages)) (length pages)
