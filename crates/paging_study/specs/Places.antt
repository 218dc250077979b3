-- The places of a list of references, counted from 1. This project's own.
use Rattle.std.specs.Prelude.{ℕ, suc, zero, Bool, false, ◌+◌, ◌-◌, ◌==◌, ◌||◌, List, [], ◌∷◌, if◌then◌else◌, slice_index, slice_index_or}
use Rattle.std.specs.List.{list_any}

-- the page of the reference at the place
abbrev pub page_at : List ℕ → ℕ → ℕ
page_at pages place = slice_index pages (place - 1)

-- the flag of the place
abbrev pub flag_at : List Bool → ℕ → Bool
flag_at flags place = slice_index_or flags (place - 1) false

-- whether the list has the number
abbrev pub has : List ℕ → ℕ → Bool
has xs x = list_any (λ y. x == y) xs

-- 1 if so, 0 if not
abbrev pub one_if : Bool → ℕ
one_if test = if test then 1 else 0

-- how many of the places 1 to n pass the test
abbrev pub count_places : (ℕ → Bool) → ℕ → ℕ
count_places test zero = 0
count_places test (suc n) = count_places test n + one_if (test (suc n))

-- the last of the places 1 to n that passes the test; 0 if none does
abbrev pub last_place : (ℕ → Bool) → ℕ → ℕ
last_place test zero = 0
last_place test (suc n) = if test (suc n) then suc n else last_place test n

-- whether one of the places 1 to n passes the test
abbrev pub any_place : (ℕ → Bool) → ℕ → Bool
any_place test zero = false
any_place test (suc n) = any_place test n || test (suc n)

-- the pages of those of the places 1 to n that pass the test
abbrev pub pages_of : (ℕ → ℕ) → (ℕ → Bool) → ℕ → List ℕ
pages_of page test zero = []
pages_of page test (suc n) = if test (suc n) then page (suc n) ∷ pages_of page test n else pages_of page test n
