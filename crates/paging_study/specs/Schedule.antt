-- Schedules of frames, demand paged. Source: Belady, "A Study of Replacement Algorithms for a
-- Virtual-Storage Computer" (1966). A set of pages stands as a list of them; with a page twice it
-- would only be longer.
use Rattle.std.specs.Prelude.{◌≡◌, ◌≢◌, ℕ, zero, suc, Bool, true, ◌<◌, ◌≤◌, ◌-◌, List, [], ◌∷◌, length, not, ◌&&◌}
use Rattle.paging_study.specs.Places.{page_at, flag_at, has, count_places, pages_of}
use Rattle.paging_study.specs.Intervals.{begins, is_inside}

-- the pages that have a frame after each place, and before the first: none at first; then at most
-- as many as there are frames, the page of the place among them, and no other page that had no
-- frame before
pub record IsSchedule (page : ℕ → ℕ) (places frames : ℕ) (sets : ℕ → List ℕ) : Type 0 where
  pub empty : sets 0 ≡ []
  pub few : (n : ℕ) → n < places → length (sets (suc n)) ≤ frames
  pub referenced : (n : ℕ) → n < places → has (sets (suc n)) (page (suc n)) ≡ true
  pub demanded : (n y : ℕ) → n < places → has (sets (suc n)) y ≡ true → y ≢ page (suc n) → has (sets n) y ≡ true

-- the references whose page has no frame before them
abbrev pub faults_of : (ℕ → ℕ) → (ℕ → List ℕ) → ℕ → ℕ
faults_of page sets places = count_places (λ n. not (has (sets (n - 1)) (page n))) places

-- the schedule that keeps a page over some of its intervals, each told by its first place: after a
-- place it has that place's page and those of the kept intervals with the place inside
abbrev pub is_kept_inside : (ℕ → ℕ) → (ℕ → Bool) → ℕ → ℕ → Bool
is_kept_inside page kept place end = is_inside page place end && kept (begins page end)

abbrev pub sets_of : (ℕ → ℕ) → (ℕ → Bool) → ℕ → ℕ → List ℕ
sets_of page kept places zero = []
sets_of page kept places (suc n) = page (suc n) ∷ pages_of page (is_kept_inside page kept (suc n)) places

-- the same for a list of pages and of flags
abbrev pub IsScheduleOf : List ℕ → ℕ → (ℕ → List ℕ) → Type 0
IsScheduleOf pages frames sets = IsSchedule (page_at pages) (length pages) frames sets

abbrev pub faults_with : List ℕ → (ℕ → List ℕ) → ℕ
faults_with pages sets = faults_of (page_at pages) sets (length pages)

abbrev pub kept_sets : List ℕ → List Bool → ℕ → List ℕ
kept_sets pages kept = sets_of (page_at pages) (flag_at kept) (length pages)
