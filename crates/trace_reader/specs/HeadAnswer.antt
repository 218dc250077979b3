-- What an answer of the reader of a log's front says. Source: this project's own.
use Rattle.std.specs.Prelude.{◌≡◌, ℕ, ◌+◌, ◌-◌, ◌≤◌, Bool, true, false, List, [], ◌∷◌, ◌++◌, length, drop, Option, Some, Result, Ok, Err, IsOk, IfSome}
use Rattle.vm_types.specs.Configuration.{IsWellFormed}
use Rattle.vm_types.specs.Counts.{Rose}
use Rattle.vm_types.specs.declared.config.Config.{Config}
use Rattle.outside_io.specs.declared.lines.Line.TheVariants.{Text}
use Rattle.outside_io.specs.HandedOut.{HandsOut, Takes}
use Rattle.trace_lines.specs.declared.part.Part.{Part}
use Rattle.trace_reader.specs.declared.draft.Draft.{Draft}
use Rattle.trace_reader.specs.declared.fault.TraceFault.{TraceFault}
use Rattle.trace_reader.specs.declared.fault.TraceFault.TheVariants.{NoMemory, ReadFault, Line, Empty, Unfinished}
use Rattle.trace_reader.specs.Head.{Configured, Faulty, begins_log, goes_on, is_faulty, head_line, head_of, judge_head}
use Rattle.trace_reader.specs.Head as head
use Rattle.trace_reader.specs.Meaning.{lines, next_line}
use Rattle.trace_reader.specs.Stream.{IsReading}

-- whole lines were taken, none of them at fault: the text is judged as its rest is from here on, and so is
-- each text with this front
pub record HasGone (text : List ℕ) (part : Part) (number : ℕ) (rest : List ℕ) : Type 0 where
  pub front : List ℕ
  pub whole : text ≡ front ++ rest
  pub goes : (more : List ℕ) → head_of (front ++ more) ≡ judge_head number part (lines more)
  pub onward : 1 ≤ number
  pub counted : drop (number - 1) (lines text) ≡ lines rest

-- the line behind those isn't at fault as a line of the trace
pub record HasRightLine (text : List ℕ) : Type 0 where
  pub part : Part
  pub number : ℕ
  pub rest : List ℕ
  pub gone : HasGone text part number rest
  pub line : List ℕ
  pub others : List (List ℕ)
  pub first : lines rest ≡ line ∷ others
  pub right : IsOk (next_line number part line)

-- of the line behind those a part was taken
pub record IsCutShort (text : List ℕ) (left : Option (List ℕ)) : Type 0 where
  pub part : Part
  pub number : ℕ
  pub line : List ℕ
  pub rest : List ℕ
  pub gone : HasGone text part number (line ++ rest)
  pub few : length line ≤ 255
  pub left_over : left ≡ Some rest

-- what the answer says of the whole text, and of what is left of it
abbrev pub HeadAnswers : Result Config TraceFault → List ℕ → Option (List ℕ) → Type 0
HeadAnswers (Ok config) text left = (log : List ℕ) × (head_of text ≡ Configured config log) × (left ≡ Some log)
HeadAnswers (Err (Line n breach)) text left = head_of text ≡ Faulty n breach
HeadAnswers (Err Empty) text left = (text ≡ []) × (left ≡ Some [])
HeadAnswers (Err Unfinished) text left = (head_of text ≡ head.Unfinished) × (left ≡ Some [])
HeadAnswers (Err ReadFault) text left = IsCutShort text left
HeadAnswers (Err NoMemory) text left = HasRightLine text

-- whole lines of the text were taken, and this is left of it
pub record IsGoneTo (text : List ℕ) (part : Part) (number : ℕ) (left : Option (List ℕ)) : Type 0 where
  pub rest : List ℕ
  pub gone : HasGone text part number rest
  pub left_over : left ≡ Some rest

-- of what was left at first, if it was known
abbrev pub IsTold : Option (List ℕ) → Part → ℕ → Option (List ℕ) → Type 0
IsTold told part number left = IfSome told (λ text. IsGoneTo text part number left)

-- the answer to the next line: the log begins behind it, the trace goes on, or it is at fault
abbrev pub IsNextHead : Option (List ℕ) → Part → ℕ → Option (List ℕ) → Result Bool TraceFault → Type 0
IsNextHead told part number left (Ok true) = IfSome told (λ text. HeadAnswers (Ok part.config) text left)
IsNextHead told part number left (Ok false) = IsTold told part number left
IsNextHead told part number left (Err f) = IfSome told (λ text. HeadAnswers (Err f) text left)

-- whatever was left at first
abbrev pub AnswersNext : Part → ℕ → Option (List ℕ) → Part → ℕ → Option (List ℕ) → Result Bool TraceFault → Type 0
AnswersNext part number left next after later answer = (told : Option (List ℕ)) → IsTold told part number left → IsNextHead told next after later answer

-- what is known once the trace goes on, or the log begins
abbrev pub IsKeptNext : Draft → ℕ → ℕ → Bool → Type 0
IsKeptNext next number after true = IsWellFormed next.part.config
IsKeptNext next number after false = IsReading next after × (after ≡ number + 1)

-- a line was taken: it begins the log, or the trace goes on
abbrev pub HasTakenHead : Draft → ℕ → List ℕ → Draft → ℕ → Bool → Type 0
HasTakenHead before number line after next true = (head_line number before.part line ≡ begins_log) × (after.part ≡ before.part)
HasTakenHead before number line after next false = (head_line number before.part line ≡ goes_on after.part) × IsReading after next × (next ≡ number + 1)

-- why it wasn't taken
abbrev pub IsHeadLineAtFault : Part → ℕ → List ℕ → TraceFault → Type 0
IsHeadLineAtFault part number line NoMemory = IsOk (next_line number part line)
IsHeadLineAtFault part number line ReadFault = ⊥
IsHeadLineAtFault part number line (Line n breach) = (n ≡ number) × (head_line number part line ≡ is_faulty breach)
IsHeadLineAtFault part number line Empty = ⊥
IsHeadLineAtFault part number line Unfinished = ⊥

-- by what the line is that was handed out, whatever was left at first
abbrev pub AnswersLine : Part → ℕ → Bool → List ℕ → Part → ℕ → Result Bool TraceFault → Type 0
AnswersLine part number ended line next after answer =
    (left later : Option (List ℕ)) → HandsOut (Text ended) line → IfSome left (λ text. Takes (Ok (Text ended)) text line later) → AnswersNext part number left next after later answer

-- the count of failures rose at `ReadFault`, and is else unchanged
abbrev pub CountsByHead : Result Bool TraceFault → ℕ → ℕ → Type 0
CountsByHead (Err ReadFault) before now = Rose before now
CountsByHead (Err NoMemory) before now = now ≡ before
CountsByHead (Err (Line n breach)) before now = now ≡ before
CountsByHead (Err Empty) before now = now ≡ before
CountsByHead (Err Unfinished) before now = now ≡ before
CountsByHead (Ok begins) before now = now ≡ before
