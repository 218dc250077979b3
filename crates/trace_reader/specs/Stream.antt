-- A text in pieces: what the lines taken so far declare, and what they say of the whole text.
-- Source: this project's own.
use Rattle.std.specs.Prelude.{◌≡◌, ◌≢◌, ℕ, ◌+◌, ◌-◌, ◌≤◌, true, false, List, [], ◌++◌, length, take, drop, slice_index_or, All, Option, Result, Ok, Err, IsOk}
use Rattle.vm_types.specs.declared.limits.TheConstants.{MOST_LONG_LINES}
use Rattle.vm_types.specs.declared.config.Config.{Config}
use Rattle.trace_lines.specs.declared.part.Part.{Part}
use Rattle.trace_lines.specs.Seen.{IsSeen}
use Rattle.trace_reader.specs.declared.draft.Draft.{Draft}
use Rattle.trace_reader.specs.declared.fault.TraceFault.{TraceFault}
use Rattle.trace_reader.specs.declared.fault.TraceFault.TheVariants as fault
use Rattle.trace_reader.specs.Answer.{IsTextTaken}
use Rattle.trace_reader.specs.Changes.{start}
use Rattle.trace_reader.specs.Drafts.{IsDraft}
use Rattle.trace_reader.specs.Meaning.{Trace, Configuration, Faulty, next_line, judge, is_open, lines}
use Rattle.trace_reader.specs.Meaning as meaning

-- what is known before the line of this number
pub record IsReading (held : Draft) (number : ℕ) : Type 0 where
  pub seen : IsSeen held.seen held.part.config
  pub draft : IsDraft held.part
  pub few : number ≤ MOST_LONG_LINES + 1

-- the line was taken
pub record HasTaken (before : Draft) (number : ℕ) (line : List ℕ) (after : Draft) (next : ℕ) : Type 0 where
  pub taken : next_line number before.part line ≡ Ok after.part
  pub counted : next ≡ number + 1
  pub reading : IsReading after next

-- why the line wasn't taken
abbrev pub IsLineAtFault : Part → ℕ → List ℕ → TraceFault → Type 0
IsLineAtFault part number line fault.NoMemory = IsOk (next_line number part line)
IsLineAtFault part number line fault.ReadFault = ⊥
IsLineAtFault part number line (fault.Line n breach) = (n ≡ number) × (next_line number part line ≡ Err breach)
IsLineAtFault part number line fault.Empty = ⊥
IsLineAtFault part number line fault.Unfinished = ⊥

-- whatever comes next, the text from before is judged as the rest is from after, which stands so many lines
-- behind the text's first
pub record Follows (before : Part) (first : ℕ) (text : List ℕ) (after : Part) (next : ℕ) (rest : List ℕ) : Type 0 where
  pub judged : (more : List ℕ) → judge first before (lines (text ++ more)) ≡ judge next after (lines (rest ++ more))
  pub opened : (more : List ℕ) → is_open first before (lines (text ++ more)) ≡ is_open next after (lines (rest ++ more))
  pub onward : first ≤ next
  pub counted : (more : List ℕ) → drop (next - first) (lines (text ++ more)) ≡ lines (rest ++ more)

-- a front of the text has no line at fault
pub record IsOpenFront (part : Part) (number : ℕ) (text : List ℕ) : Type 0 where
  pub front : List ℕ
  pub rest : List ℕ
  pub whole : text ≡ front ++ rest
  pub opened : is_open number part (lines front) ≡ true

-- whatever comes next, the text has the fault; or memory ran out at a line that is right
abbrev pub IsAtFault : Part → ℕ → List ℕ → TraceFault → Type 0
IsAtFault part number text fault.NoMemory = IsOpenFront part number text
IsAtFault part number text fault.ReadFault = ⊥
IsAtFault part number text (fault.Line n breach) =
    ((more : List ℕ) → judge number part (lines (text ++ more)) ≡ Faulty n breach) × (is_open number part (lines text) ≡ false)
IsAtFault part number text fault.Empty = ⊥
IsAtFault part number text fault.Unfinished = ⊥

-- the first 80 bytes of the line of this number were kept, if it is at fault
abbrev pub KeepsLine : ℕ → List ℕ → List ℕ → TraceFault → Type 0
KeepsLine number line kept fault.NoMemory = Unit {0}
KeepsLine number line kept fault.ReadFault = Unit {0}
KeepsLine number line kept (fault.Line n breach) = (n ≡ number) × (kept ≡ take 80 line)
KeepsLine number line kept fault.Empty = ⊥
KeepsLine number line kept fault.Unfinished = Unit {0}

-- the same of what stands behind the last whole line of a text, which has no bytes if nothing stands there and
-- no line was taken
abbrev pub KeepsLast : ℕ → List ℕ → List ℕ → TraceFault → Type 0
KeepsLast number line kept fault.NoMemory = Unit {0}
KeepsLast number line kept fault.ReadFault = Unit {0}
KeepsLast number line kept (fault.Line n breach) = KeepsLine number line kept (fault.Line n breach)
KeepsLast number line kept fault.Empty = (line ≡ []) × (number ≡ 1)
KeepsLast number line kept fault.Unfinished = Unit {0}

-- whatever comes next, these are the first 80 bytes of the faulty line of a text that begins with the line of
-- this number
abbrev pub KeepsFaulty : ℕ → List ℕ → List ℕ → TraceFault → Type 0
KeepsFaulty first text kept fault.NoMemory = Unit {0}
KeepsFaulty first text kept fault.ReadFault = Unit {0}
KeepsFaulty first text kept (fault.Line n breach) =
    (first ≤ n) × ((more : List ℕ) → kept ≡ take 80 (slice_index_or (lines (text ++ more)) (n - first) []))
KeepsFaulty first text kept fault.Empty = ⊥
KeepsFaulty first text kept fault.Unfinished = Unit {0}

-- the answer is what the text means; or memory ran out at its last line, which is right
abbrev pub Means : ℕ → Part → List ℕ → Result Config TraceFault → Trace → Type 0
Means number part line (Ok config) trace = trace ≡ Configuration config
Means number part line (Err fault.NoMemory) trace = IsOk (next_line number part line)
Means number part line (Err fault.ReadFault) trace = ⊥
Means number part line (Err (fault.Line n breach)) trace = trace ≡ Faulty n breach
Means number part line (Err fault.Empty) trace = (line ≡ []) × (number ≡ 1)
Means number part line (Err fault.Unfinished) trace = trace ≡ meaning.Unfinished

-- of the text this much was taken: whole lines, and a part of the next one
pub record IsHeld (text : List ℕ) (left : Option (List ℕ)) (part : Part) (number : ℕ) (pending : List ℕ) : Type 0 where
  pub done : List ℕ
  pub split : IsTextTaken text (done ++ pending) left
  pub follows : Follows start 1 done part number []

-- the lines at the text's front were taken, and the rest is left
pub record IsFrontTaken (before : Part) (first : ℕ) (text : List ℕ) (after : Draft) (next : ℕ) (rest : List ℕ) : Type 0 where
  pub front : List ℕ
  pub split : text ≡ front ++ rest
  pub follows : Follows before first front after.part next []
  pub reading : IsReading after next
  pub later : first ≤ next
  pub same : next ≡ first → rest ≡ text

-- the whole lines of the piece were taken, and this much behind them is left
pub record IsPieceTaken (before : Part) (first : ℕ) (piece : List ℕ) (after : Draft) (next held : ℕ) : Type 0 where
  pub bound : held ≤ length piece
  pub front : List ℕ
  pub split : piece ≡ front ++ drop (length piece - held) piece
  pub follows : Follows before first front after.part next []
  pub one_line : All (λ b. b ≢ 10) (drop (length piece - held) piece)
  pub few : held ≤ 255
  pub reading : IsReading after next
  pub later : first ≤ next
  pub same : next ≡ first → held ≡ length piece
