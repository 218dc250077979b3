-- The answers, as the text of a study.
use Rattle.std.proofs.Common.{◌≡◌, ℕ, suc, ◌<◌, ◌≤◌, List, [], ◌∷◌, ◌++◌, length, get_or, refl, sym, ◌∙◌, ap, arith}
use Rattle.std.specs.Prelude.{map, Option, Some, None}
use Rattle.std.specs.List.{range_with_len, filter_map}
use Rattle.std.proofs.lemmas.List.{ext_get_or}
use Rattle.std.proofs.lemmas.List.FromFn.{length-map-range_with_len, get_or-map-range_with_len}
use Rattle.vm_types.specs.declared.config.Config.{Config}
use Rattle.vm_types.specs.declared.config.Task.{Task}
use Rattle.run_words.specs.Text.{status_line}
use Rattle.paging_study.specs.PageString.{page_of_task, page_string}
use Rattle.paging_study.specs.RingFaults.{ring_faults}
use Rattle.paging_study.specs.Schedule.{faults_with, kept_sets}
use Rattle.paging_study.specs.Distinct.{distinct_pages}
use Rattle.paging_study.specs.Dropped.{dropped_places}
use Rattle.study_command.specs.Answered.{AreAnswers}
use Rattle.study_command.specs.StudyText.{IsStudyText, answer_lines, lru_faults, study_lines}
use Rattle.study_command.specs.declared.answers.Answers.{Answers}
use Rattle.study_command.specs.declared.words.Study.{Study}

-- the list has the faults with each number of frames
pub lru_is : (pages lru : List ℕ) (frames : ℕ) → length lru ≡ frames → ((j : ℕ) → j < frames → get_or lru j 0 ≡ lru_faults pages (suc j))
    → lru ≡ map (lru_faults pages) (range_with_len 1 frames)
lru_is pages lru frames count each =
    ext_get_or 0 lru (map (lru_faults pages) (range_with_len 1 frames)) (count ∙ sym (length-map-range_with_len (lru_faults pages) 1 frames))
    (λ i below. each i (omega arith) ∙ sym (get_or-map-range_with_len (lru_faults pages) 1 frames i (suc i) 0 (omega arith) (omega arith)))

-- and not many of them
pub lru_few : (pages lru : List ℕ) (frames : ℕ) → lru ≡ map (lru_faults pages) (range_with_len 1 frames) → length lru ≡ frames
lru_few pages lru frames is = ap length is ∙ length-map-range_with_len (lru_faults pages) 1 frames

one_more : {X Y : Type 0} (h : X → Option Y) (x : X) (xs : List X) (o : Option Y) → h x ≡ o → length (filter_map h xs) ≤ length xs → length (filter_map h (x ∷ xs)) ≤ suc (length xs)
one_more h x xs None is few = rw is (omega (arith, few))
one_more h x xs (Some y) is few = rw is (omega (arith, few))

filter_map_few : {X Y : Type 0} (h : X → Option Y) (xs : List X) → length (filter_map h xs) ≤ length xs
filter_map_few h [] = omega arith
filter_map_few h (x ∷ xs) = one_more h x xs (h x) refl (filter_map_few h xs)

-- no more references than requests
pub pages_few : (process : ℕ) (tasks : List Task) → length (page_string process tasks) ≤ length tasks
pages_few process tasks = filter_map_few (page_of_task process) tasks

same_lines : (n n' d d' f r r' : ℕ) (l l' : List ℕ) (b b' : ℕ) (x x' y : List ℕ) → n ≡ n' → d ≡ d' → r ≡ r' → l ≡ l' → b ≡ b' → x ≡ x'
    → answer_lines n d f r l b x y ≡ answer_lines n' d' f r' l' b' x' y
same_lines n n' d d' f r r' l l' b b' x x' y en ed er el eb ex =
    ap (λ v. answer_lines v d f r l b x y) en ∙ ap (λ v. answer_lines n' v f r l b x y) ed ∙ ap (λ v. answer_lines n' d' f v l b x y) er
    ∙ ap (λ v. answer_lines n' d' f r' v b x y) el ∙ ap (λ v. answer_lines n' d' f r' l' v x y) eb ∙ ap (λ v. answer_lines n' d' f r' l' b' v y) ex

lines_are : (pages : List ℕ) (frames : ℕ) (a : Answers) (are : AreAnswers pages frames a)
    → answer_lines a.pages a.distinct frames a.ring a.lru.items a.least.faults a.drops.items a.least.cuts.items ≡ study_lines pages frames a.least.kept.items a.least.cuts.items
lines_are pages frames a are =
    same_lines a.pages (length pages) a.distinct (distinct_pages pages) frames a.ring (ring_faults frames pages) a.lru.items (map (lru_faults pages) (range_with_len 1 frames))
    a.least.faults (faults_with pages (kept_sets pages a.least.kept.items)) a.drops.items (dropped_places pages a.least.kept.items) a.least.cuts.items
    are.count are.distinct are.ring are.lru are.faults are.drops

-- the text of a study
pub study_text : (study : Study) (config : Config) (a : Answers) (are : AreAnswers (page_string (study.process).0 config.body) study.frames a)
    → IsStudyText study config (answer_lines a.pages a.distinct study.frames a.ring a.lru.items a.least.faults a.drops.items a.least.cuts.items ++ status_line 0)
study_text study config a are = record {
  kept = a.least.kept.items;
  cuts = a.least.cuts.items;
  least = are.least;
  lines = ap (λ text. text ++ status_line 0) (lines_are (page_string (study.process).0 config.body) study.frames a are);
}
