-- The words that ask for a study. Source: this project's own.
use Rattle.std.specs.Prelude.{◌≡◌, ℕ, ◌-◌, ◌&&◌, nat_le, List, [], ◌∷◌, Option, Some, None, codes, if◌then◌else◌}
use Rattle.vm_types.specs.declared.limits.TheConstants.{MOST_STUDY_FRAMES}
use Rattle.trace_words.specs.Number.{decimal_within}
use Rattle.command_options.specs.Numbers.{if_right}
use Rattle.command_options.specs.Options.{HasOptions}
use Rattle.study_command.specs.declared.words.Study.{Study}

-- a letter, A to P
abbrev pub process_named : List ℕ → Option ℕ
process_named (b ∷ []) = if nat_le 65 b && nat_le b 80 then Some (b - 65) else None
process_named other = None

-- one to ten digits, 1 to 1024
abbrev pub frames_named : List ℕ → Option ℕ
frames_named word = if_right (decimal_within 1 MOST_STUDY_FRAMES word)

-- a letter and a number, which name the study
abbrev pub AreValues : List (List ℕ) → Study → Type 0
AreValues (letter ∷ number ∷ []) study = (process_named letter ≡ Some (study.process).0) × (frames_named number ≡ Some study.frames)
AreValues other study = ⊥

-- the two options in either order, with these values
pub record AsksFor (words : List (List ℕ)) (study : Study) : Type 0 where
  pub values : List (List ℕ)
  pub options : HasOptions (codes "process" ∷ codes "frames" ∷ []) values words
  pub name : AreValues values study
