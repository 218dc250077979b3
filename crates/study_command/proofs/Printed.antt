-- The lines of a list, as they are written.
use Rattle.std.proofs.Common.{◌≡◌, ℕ, ◌+◌, ◌<◌, List, ◌++◌, length, drop, get_or, ap, codes}
use Rattle.std.proofs.lemmas.List.{drop_more}
use Rattle.study_command.specs.StudyText.{faults_line, lru_lines, place_line, place_lines}

pub lru_lines-next : (first : ℕ) (lru : List ℕ) (i d : ℕ) → i < length lru
    → lru_lines first (drop i lru) ≡ faults_line (codes "LRU ") first (get_or lru i d) ++ lru_lines (first + 1) (drop (i + 1) lru)
lru_lines-next first lru i d below = ap (λ (xs : List ℕ). lru_lines first xs) (drop_more lru i d below)

pub place_lines-next : (word places : List ℕ) (i d : ℕ) → i < length places
    → place_lines word (drop i places) ≡ place_line word (get_or places i d) ++ place_lines word (drop (i + 1) places)
place_lines-next word places i d below = ap (λ (xs : List ℕ). place_lines word xs) (drop_more places i d below)
