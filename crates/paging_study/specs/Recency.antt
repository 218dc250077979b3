-- How recently a page was referenced. Source: Mattson, Gecsei, Slutz and Traiger, "Evaluation
-- Techniques for Storage Hierarchies" (1970).
use Rattle.std.specs.Prelude.{ℕ, Bool, ◌-◌, ◌==◌, ◌&&◌, nat_lt, nat_le}
use Rattle.paging_study.specs.Places.{count_places, last_place}
use Rattle.paging_study.specs.Intervals.{begins}

-- the place is the last of the places 1 to n with its page
abbrev pub is_last : (ℕ → ℕ) → ℕ → ℕ → Bool
is_last page n place = last_place (λ i. page i == page place) n == place

-- how many distinct other pages were referenced since the page of the place was: each counts at the
-- last place before this one that has it
abbrev pub distance : (ℕ → ℕ) → ℕ → ℕ
distance page place = count_places (λ i. nat_lt (begins page place) i && is_last page (place - 1) i) (place - 1)

-- with so many frames the reference is a hit: its page was referenced before, and fewer distinct
-- other pages were since
abbrev pub is_hit : (ℕ → ℕ) → ℕ → ℕ → Bool
is_hit page frames place = nat_le 1 (begins page place) && nat_lt (distance page place) frames

-- the reference is a hit from one frame more than this on
abbrev pub is_at_distance : (ℕ → ℕ) → ℕ → ℕ → Bool
is_at_distance page d place = nat_le 1 (begins page place) && distance page place == d
