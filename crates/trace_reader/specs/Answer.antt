-- What an answer of the reader says. Source: this project's own.
use Rattle.std.specs.Prelude.{◌≡◌, ◌⊎◌, ℕ, ◌≤◌, true, false, List, [], ◌++◌, length, Option, Some, Result, Ok, Err}
use Rattle.vm_types.specs.Counts.{Rose}
use Rattle.vm_types.specs.declared.config.Config.{Config}
use Rattle.trace_reader.specs.declared.fault.TraceFault.{TraceFault}
use Rattle.trace_reader.specs.declared.fault.TraceFault.TheVariants.{NoMemory, ReadFault, Line, Empty, Unfinished}
use Rattle.trace_reader.specs.Meaning.{Configuration, Faulty, trace_of, shows_no_fault}
use Rattle.trace_reader.specs.Meaning as meaning

-- the text begins with what was taken, and this is left
pub record IsTextTaken (text taken : List ℕ) (left : Option (List ℕ)) : Type 0 where
  pub rest : List ℕ
  pub whole : text ≡ taken ++ rest
  pub left_over : left ≡ Some rest

-- the bytes taken show the fault, or they are the whole text
pub record HasShown (text : List ℕ) (left : Option (List ℕ)) : Type 0 where
  pub taken : List ℕ
  pub split : IsTextTaken text taken left
  pub shown : (shows_no_fault taken ≡ false) ⊎ (left ≡ Some [])

-- no line that was judged is at fault: the bytes taken show none, but for the last 8192 at most, which
-- came in one piece
pub record IsRightSoFar (text : List ℕ) (left : Option (List ℕ)) : Type 0 where
  pub judged : List ℕ
  pub piece : List ℕ
  pub split : IsTextTaken text (judged ++ piece) left
  pub few : length piece ≤ 8192
  pub right : shows_no_fault judged ≡ true

-- what the answer says of the whole text, and of what is left of it
abbrev pub AnswersTrace : Result Config TraceFault → List ℕ → Option (List ℕ) → Type 0
AnswersTrace (Ok config) text left = (trace_of text ≡ Configuration config) × (left ≡ Some [])
AnswersTrace (Err (Line n breach)) text left = (trace_of text ≡ Faulty n breach) × HasShown text left
AnswersTrace (Err Empty) text left = (text ≡ []) × (left ≡ Some [])
AnswersTrace (Err Unfinished) text left = (trace_of text ≡ meaning.Unfinished) × (left ≡ Some [])
AnswersTrace (Err ReadFault) text left = (taken : List ℕ) × IsTextTaken text taken left × (shows_no_fault taken ≡ true)
AnswersTrace (Err NoMemory) text left = IsRightSoFar text left

-- the count of failures rose at `ReadFault`, and is else unchanged
abbrev pub FaultsByTrace : Result Config TraceFault → ℕ → ℕ → Type 0
FaultsByTrace (Err ReadFault) before now = Rose before now
FaultsByTrace (Err NoMemory) before now = now ≡ before
FaultsByTrace (Err (Line n breach)) before now = now ≡ before
FaultsByTrace (Err Empty) before now = now ≡ before
FaultsByTrace (Err Unfinished) before now = now ≡ before
FaultsByTrace (Ok config) before now = now ≡ before
