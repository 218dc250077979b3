-- What holds of every choice of the kept intervals, and of any cuts. This project's own.
use Rattle.std.specs.Prelude.{◌≡◌, ℕ, suc, Bool, ◌+◌, ◌-◌, ◌*◌, ◌<◌, ◌≤◌, List}
use Rattle.paging_study.specs.Places.{count_places}
use Rattle.paging_study.specs.Intervals.{is_uncut}
use Rattle.paging_study.specs.Schedule.{IsSchedule, faults_of}
use Rattle.paging_study.specs.Least.{IsChosen}

-- no two choices keep the rule
abbrev pub HasOneChoice : Type 0
HasOneChoice = (page : ℕ → ℕ) (places room : ℕ) (kept kept' cut cut' : ℕ → Bool)
    → IsChosen page places room kept cut → IsChosen page places room kept' cut'
    → (n : ℕ) → n < places → (kept' (suc n) ≡ kept (suc n)) × (cut' (suc n) ≡ cut (suc n))

-- whatever the cuts, each reference that is no fault is one of at most one hit fewer than frames for
-- each cut, or ends an interval with no cut inside
abbrev pub CutsBoundFaults : Type 0
CutsBoundFaults = (page : ℕ → ℕ) (cut : ℕ → Bool) (places frames : ℕ) (sets : ℕ → List ℕ)
    → IsSchedule page places frames sets
    → places ≤ (frames - 1) * count_places cut places + count_places (is_uncut page cut) places + faults_of page sets places
