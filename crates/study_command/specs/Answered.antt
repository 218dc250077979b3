-- What is kept of a study until it is printed. Source: this project's own.
use Rattle.std.specs.Prelude.{◌≡◌, ℕ, List, length, map}
use Rattle.std.specs.List.{range_with_len}
use Rattle.paging_study.specs.RingFaults.{ring_faults}
use Rattle.paging_study.specs.Schedule.{faults_with, kept_sets}
use Rattle.paging_study.specs.Distinct.{distinct_pages}
use Rattle.paging_study.specs.Dropped.{dropped_places}
use Rattle.study_command.specs.declared.answers.Answers.{Answers}
use Rattle.study_command.specs.LeastOf.{IsLeast}
use Rattle.study_command.specs.StudyText.{lru_faults}

-- the answers to these pages, with so many frames
pub record AreAnswers (pages : List ℕ) (frames : ℕ) (a : Answers) : Type 0 where
  pub count : a.pages ≡ length pages
  pub distinct : a.distinct ≡ distinct_pages pages
  pub ring : a.ring ≡ ring_faults frames pages
  pub lru : a.lru.items ≡ map (lru_faults pages) (range_with_len 1 frames)
  pub least : IsLeast pages frames a.least.kept.items a.least.cuts.items
  pub faults : a.least.faults ≡ faults_with pages (kept_sets pages a.least.kept.items)
  pub drops : a.drops.items ≡ dropped_places pages a.least.kept.items
