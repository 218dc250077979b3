-- Which intervals are kept, so that the faults are the least, and the cuts that show it. Source:
-- Belady, "A Study of Replacement Algorithms for a Virtual-Storage Computer" (1966), where the page
-- that is needed last is replaced; the cuts are this project's own.
use Rattle.std.specs.Prelude.{◌≡◌, ◌≢◌, ℕ, suc, Bool, true, false, ◌<◌, ◌≤◌, ◌==◌, ◌&&◌, nat_lt, nat_le, not, List, length, slice_index}
use Rattle.paging_study.specs.Places.{page_at, flag_at, has, count_places, any_place}
use Rattle.paging_study.specs.Intervals.{begins, is_inside}

-- the interval that ends there was dropped at one of the places 1 to n; `drop` says at each place
-- the end of the interval that is dropped there, 0 if none is
abbrev pub is_dropped : (ℕ → ℕ) → ℕ → ℕ → Bool
is_dropped drop n end = any_place (λ place. drop place == end) n

-- the interval has the place after n inside, and was kept up to n
abbrev pub is_open : (ℕ → ℕ) → (ℕ → ℕ) → ℕ → ℕ → Bool
is_open page drop n end = is_inside page (suc n) end && not (is_dropped drop n end)

-- at the place after n: if more kept intervals than there is room for have it inside, the one of
-- them that ends last is dropped, else none
pub record IsDrop (page drop : ℕ → ℕ) (places room n : ℕ) : Type 0 where
  pub none : count_places (is_open page drop n) places ≤ room → drop (suc n) ≡ 0
  pub exists : drop (suc n) ≤ places
  pub open_there : room < count_places (is_open page drop n) places → is_open page drop n (drop (suc n)) ≡ true
  pub last : (end : ℕ) → end < places → is_open page drop n (suc end) ≡ true → room < count_places (is_open page drop n) places → suc end ≤ drop (suc n)

-- so at each place in order
abbrev pub AreDrops : (ℕ → ℕ) → (ℕ → ℕ) → ℕ → ℕ → Type 0
AreDrops page drop places room = (n : ℕ) → n < places → IsDrop page drop places room n

-- by its first place: the interval is dropped nowhere; false if no interval begins there
pub record AreKept (page drop : ℕ → ℕ) (places : ℕ) (kept : ℕ → Bool) : Type 0 where
  pub interval : (n : ℕ) → n < places → 1 ≤ begins page (suc n) → kept (begins page (suc n)) ≡ not (is_dropped drop places (suc n))
  pub none : (i : ℕ) → i < places → ((n : ℕ) → n < places → begins page (suc n) ≢ suc i) → kept (suc i) ≡ false

-- whether the place after n is a cut: an interval is dropped there, and no later cut is before its end
abbrev pub is_cut : (ℕ → ℕ) → ℕ → (ℕ → Bool) → ℕ → Bool
is_cut drop places cut n = nat_le 1 (drop (suc n)) && not (any_place (λ later. (cut later && nat_lt (suc n) later) && nat_lt later (drop (suc n))) places)

abbrev pub AreCuts : (ℕ → ℕ) → ℕ → (ℕ → Bool) → Type 0
AreCuts drop places cut = (n : ℕ) → n < places → cut (suc n) ≡ is_cut drop places cut n

-- the one choice of the kept intervals and of the cuts
pub record IsChosen (page : ℕ → ℕ) (places room : ℕ) (kept cut : ℕ → Bool) : Type 0 where
  pub drop : ℕ → ℕ
  pub drops : AreDrops page drop places room
  pub keeps : AreKept page drop places kept
  pub cuts : AreCuts drop places cut

-- the same for lists: flags by the first places, and cuts
abbrev pub IsChoiceOf : List ℕ → ℕ → List Bool → List ℕ → Type 0
IsChoiceOf pages room kept cuts = IsChosen (page_at pages) (length pages) room (flag_at kept) (has cuts)

-- where the intervals begin, by the places at which they end
abbrev pub AreBegins : (ℕ → ℕ) → List ℕ → Type 0
AreBegins page firsts = (n : ℕ) → n < length firsts → slice_index firsts n ≡ begins page (suc n)

-- the ends of the intervals by their first places; 0 if no interval begins there
pub record AreEnds (page : ℕ → ℕ) (places : ℕ) (ends : ℕ → ℕ) : Type 0 where
  pub begun : (n : ℕ) → n < places → 1 ≤ begins page (suc n) → ends (begins page (suc n)) ≡ suc n
  pub only : (i : ℕ) → i < places → 1 ≤ ends (suc i) → (ends (suc i) ≤ places) × (begins page (ends (suc i)) ≡ suc i)
