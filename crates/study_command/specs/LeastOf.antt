-- The least number of faults, how to come to it, and why none is less. Source: Belady, "A Study of
-- Replacement Algorithms for a Virtual-Storage Computer" (1966); the cuts are this project's own.
use Rattle.std.specs.Prelude.{◌≡◌, ℕ, Bool, true, ◌+◌, ◌-◌, ◌*◌, ◌<◌, ◌≤◌, List, length, AllPairs}
use Rattle.paging_study.specs.Places.{has}
use Rattle.paging_study.specs.Intervals.{uncut}
use Rattle.paging_study.specs.Schedule.{IsScheduleOf, faults_with, kept_sets}
use Rattle.paging_study.specs.Least.{IsChoiceOf}

-- the kept intervals make a schedule that no schedule undercuts, the cuts are places in ascending
-- order that show it, and both are those that the rule chooses
pub record IsLeast (pages : List ℕ) (frames : ℕ) (kept : List Bool) (cuts : List ℕ) : Type 0 where
  pub schedule : IsScheduleOf pages frames (kept_sets pages kept)
  pub least : (sets : ℕ → List ℕ) → IsScheduleOf pages frames sets → faults_with pages (kept_sets pages kept) ≤ faults_with pages sets
  pub certificate : faults_with pages (kept_sets pages kept) + (frames - 1) * length cuts + uncut pages cuts ≡ length pages
  pub ascending : AllPairs (λ a b. a < b) cuts
  pub places : (place : ℕ) → has cuts place ≡ true → (1 ≤ place) × (place ≤ length pages)
  pub chosen : IsChoiceOf pages (frames - 1) kept cuts
