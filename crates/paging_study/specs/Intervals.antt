-- The intervals between a reference and the next one to the same page, each named by the place at
-- which it ends. Source: Belady, "A Study of Replacement Algorithms for a Virtual-Storage Computer"
-- (1966); that a cut is a place is this project's own.
use Rattle.std.specs.Prelude.{ℕ, suc, zero, Bool, ◌-◌, ◌==◌, ◌&&◌, nat_lt, nat_le, List, length}
use Rattle.paging_study.specs.Places.{page_at, has, count_places, last_place}

-- the place where the interval that ends at this place begins: the last one before it with the same
-- page; 0 if there is none, and then no interval ends here
abbrev pub begins : (ℕ → ℕ) → ℕ → ℕ
begins page zero = 0
begins page (suc n) = last_place (λ i. page i == page (suc n)) n

-- an interval ends at the place, and the other one lies inside it, strictly between its two ends
abbrev pub is_inside : (ℕ → ℕ) → ℕ → ℕ → Bool
is_inside page place end = (nat_le 1 (begins page end) && nat_lt (begins page end) place) && nat_lt place end

-- an interval ends at the place, and no cut is inside it: the last cut before its end is at its
-- first place or before
abbrev pub is_uncut : (ℕ → ℕ) → (ℕ → Bool) → ℕ → Bool
is_uncut page cut end = nat_le 1 (begins page end) && nat_le (last_place cut (end - 1)) (begins page end)

-- the intervals of a list of pages with none of these cuts inside
abbrev pub uncut : List ℕ → List ℕ → ℕ
uncut pages cuts = count_places (is_uncut (page_at pages) (has cuts)) (length pages)
