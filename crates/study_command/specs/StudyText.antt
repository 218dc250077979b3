-- The lines of a study. Source: this project's own; least recently used is that of Mattson, Gecsei,
-- Slutz and Traiger, "Evaluation Techniques for Storage Hierarchies" (1970).
use Rattle.std.specs.Prelude.{◌≡◌, ℕ, Bool, ◌+◌, not, List, [], ◌∷◌, ◌++◌, length, map, codes, decimal}
use Rattle.std.specs.List.{flat_map, range_with_len}
use Rattle.vm_types.specs.declared.config.Config.{Config}
use Rattle.vm_types.specs.Moved.{Moved}
use Rattle.disk_trait.specs.DepotView.{DepotView}
use Rattle.outside_io.specs.Views.{SourceView}
use Rattle.run_words.specs.Text.{ended, status_line}
use Rattle.command_ends.specs.Tells.{Tells}
use Rattle.paging_study.specs.Places.{page_at, count_places}
use Rattle.paging_study.specs.PageString.{page_string}
use Rattle.paging_study.specs.Recency.{is_hit}
use Rattle.paging_study.specs.RingFaults.{ring_faults}
use Rattle.paging_study.specs.Schedule.{faults_with, kept_sets}
use Rattle.paging_study.specs.Distinct.{distinct_pages}
use Rattle.paging_study.specs.Dropped.{dropped_places}
use Rattle.study_command.specs.declared.words.Study.{Study}
use Rattle.study_command.specs.LeastOf.{IsLeast}

-- the references that are no hits with so many frames
abbrev pub lru_faults : List ℕ → ℕ → ℕ
lru_faults pages frames = count_places (λ n. not (is_hit (page_at pages) frames n)) (length pages)

-- how many references there are, and how many distinct pages
abbrev pub pages_line : ℕ → ℕ → List ℕ
pages_line pages distinct = ended (codes "PAGES " ++ decimal pages ++ codes " DISTINCT " ++ decimal distinct)

-- a number of frames, and the faults with so many
abbrev pub faults_line : List ℕ → ℕ → ℕ → List ℕ
faults_line word frames faults = ended (word ++ decimal frames ++ codes " " ++ decimal faults)

-- the faults with so many frames, with one more, and so on
abbrev pub lru_lines : ℕ → List ℕ → List ℕ
lru_lines frames [] = []
lru_lines frames (faults ∷ more) = faults_line (codes "LRU ") frames faults ++ lru_lines (frames + 1) more

abbrev pub place_line : List ℕ → ℕ → List ℕ
place_line word place = ended (word ++ decimal place)

abbrev pub place_lines : List ℕ → List ℕ → List ℕ
place_lines word places = flat_map (place_line word) places

-- the lines before the status, by the numbers and places that they show
abbrev pub answer_lines : ℕ → ℕ → ℕ → ℕ → List ℕ → ℕ → List ℕ → List ℕ → List ℕ
answer_lines pages distinct frames ring lru least drops cuts =
    pages_line pages distinct ++ faults_line (codes "RING ") frames ring ++ lru_lines 1 lru
    ++ faults_line (codes "LEAST ") frames least ++ place_lines (codes "DROP ") drops ++ place_lines (codes "CUT ") cuts

-- the same by the pages, the kept intervals and the cuts
abbrev pub study_lines : List ℕ → ℕ → List Bool → List ℕ → List ℕ
study_lines pages frames kept cuts =
    answer_lines (length pages) (distinct_pages pages) frames (ring_faults frames pages) (map (lru_faults pages) (range_with_len 1 frames))
    (faults_with pages (kept_sets pages kept)) (dropped_places pages kept) cuts

-- the text of a study of a configuration: its lines are functions of the pages to which the process
-- refers, the least faults among them, and the status follows
pub record IsStudyText (study : Study) (config : Config) (text : List ℕ) : Type 0 where
  pub kept : List Bool
  pub cuts : List ℕ
  pub least : IsLeast (page_string (study.process).0 config.body) study.frames kept cuts
  pub lines : text ≡ study_lines (page_string (study.process).0 config.body) study.frames kept cuts ++ status_line 0

-- the answer of the command to a configuration: the text of a study, with status 0
abbrev pub IsStudyAnswer : Study → Config → ℕ → List ℕ → Type 0
IsStudyAnswer study config status text = (status ≡ 0) × IsStudyText study config text

-- what the command tells with a status, by what is seen of the source; the depot isn't used
abbrev pub StudyTells : Study → Moved SourceView → Moved DepotView → ℕ → List ℕ → Type 0
StudyTells study source depot = Tells (IsStudyAnswer study) source.before source.after
