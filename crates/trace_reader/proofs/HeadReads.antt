-- What the reader of a log's front has told, by what is known of its source.
use Rattle.std.proofs.Common.{◌≡◌, ℕ, ◌+◌, Bool, true, false, List, Option, Some, None, Result, Ok, Err, refl, sym, ap, subst, ◌∙◌}
use Rattle.std.specs.Prelude.{IfSome}
use Rattle.vm_types.specs.Configuration.{IsWellFormed}
use Rattle.vm_types.specs.declared.config.Config.{Config}
use Rattle.vm_types.specs.declared.faults.Failed.{Failed}
use Rattle.trace_words.specs.declared.cause.Cause.TheVariants.{LineTooLong}
use Rattle.trace_lines.specs.declared.part.Part.{Part}
use Rattle.trace_lines.specs.Breaches.{at_word}
use Rattle.outside_io.specs.declared.lines.Line.{Line}
use Rattle.outside_io.specs.declared.lines.Line.TheVariants.{Text, Long, End}
use Rattle.outside_io.specs.HandedOut.{HandsOut, Takes}
use Rattle.trace_reader.specs.declared.fault.TraceFault.{TraceFault}
use Rattle.trace_reader.specs.declared.fault.TraceFault.TheVariants as fault
use Rattle.trace_reader.specs.Changes.{start}
use Rattle.trace_reader.specs.Head.{begins_log, goes_on, is_faulty, head_line}
use Rattle.trace_reader.specs.Head as head
use Rattle.trace_reader.specs.HeadAnswer.{HeadAnswers, IsHeadLineAtFault, IsTold, HasTakenHead, AnswersLine, CountsByHead}
use Rattle.trace_reader.specs.Drafts.{IsDraft}
use Rattle.trace_reader.specs.declared.draft.Draft.{Draft}
use Rattle.trace_reader.specs.Stream.{IsReading}
use Rattle.trace_words.specs.Words.{words}
use Rattle.trace_lines.specs.Grammar.{content}
use Rattle.trace_reader.specs.Meaning.{next_line}
use Rattle.trace_reader.proofs.HeadLines.{empty_text, gone_first, line_goes, line_answers, last_goes, long_line, first_of, log_at_end}
use Rattle.trace_reader.proofs.Drafting.{read_whole}

pub told_first : (told : Option (List ℕ)) (part : Part) (number : ℕ) → part ≡ start → number ≡ 1 → IsTold told part number told
told_first None part number p n = tt
told_first (Some text) part number p n = record { rest = text; gone = rw (p, n) (gone_first text); left_over = refl }

-- what was left before, where it is known
abbrev pub TookOf : Option (List ℕ) → Result Line Failed → List ℕ → Option (List ℕ) → Type 0
TookOf left answer out new = IfSome left (λ text. Takes answer text out new)

pub took : (left new : Option (List ℕ)) (answer : Result Line Failed) (rest out : List ℕ) → left ≡ Some rest → TookOf left answer out new → Takes answer rest out new
took None new answer rest out e t = absurd cc
took (Some text) new answer rest out e t = let same : text ≡ rest = cc in subst (λ (x : List ℕ). Takes answer x out new) same t

pub told_goes : (told left new : Option (List ℕ)) (part next : Part) (number after : ℕ) (out : List ℕ) → IsTold told part number left → HandsOut (Text true) out → TookOf left (Ok (Text true)) out new
    → head_line number part out ≡ goes_on next → after ≡ number + 1 → IsTold told next after new
told_goes None left new part next number after out h gives t e n = tt
told_goes (Some text) left new part next number after out h gives t e n =
    let line = took left new (Ok (Text true)) h.rest out h.left_over t in
    record { rest = line.rest; gone = rw n (line_goes text part next number h.rest out line.rest h.gone line.parts gives.0 e); left_over = line.left_over }

pub told_ends : (told left new : Option (List ℕ)) (part next : Part) (number : ℕ) (out : List ℕ) → IsTold told part number left → HandsOut (Text false) out → TookOf left (Ok (Text false)) out new
    → head_line number part out ≡ goes_on next → IfSome told (λ text. HeadAnswers (Err fault.Unfinished) text new)
told_ends None left new part next number out h gives t e = tt
told_ends (Some text) left new part next number out h gives t e =
    let line = took left new (Ok (Text false)) h.rest out h.left_over t in
    (last_goes text part next number h.rest out line.rest h.gone gives line.parts e, line.left_over ∙ ap (λ (r : List ℕ). Some r) line.parts.1)

pub told_log : (told left new : Option (List ℕ)) (part : Part) (number : ℕ) (out : List ℕ) (ended : Bool) (config : Config) → IsTold told part number left → HandsOut (Text ended) out
    → TookOf left (Ok (Text ended)) out new → head_line number part out ≡ begins_log → config ≡ part.config → IfSome told (λ text. HeadAnswers (Ok config) text new)
told_log None left new part number out ended config h gives t e same = tt
told_log (Some text) left new part number out ended config h gives t e same =
    let line = took left new (Ok (Text ended)) h.rest out h.left_over t in
    (line.rest, line_answers text part number h.rest out line.rest ended begins_log h.gone gives line.parts e (λ p. λ never. absurd cc) ∙ ap (λ (c : Config). head.Configured c line.rest) (sym same), line.left_over)

pub told_fault : (told left new : Option (List ℕ)) (part : Part) (number : ℕ) (out : List ℕ) (ended : Bool) (why : TraceFault) → IsTold told part number left → HandsOut (Text ended) out
    → TookOf left (Ok (Text ended)) out new → IsHeadLineAtFault part number out why → IfSome told (λ text. HeadAnswers (Err why) text new)
told_fault None left new part number out ended why h gives t f = tt
told_fault (Some text) left new part number out ended fault.NoMemory h gives t f =
    let line = took left new (Ok (Text ended)) h.rest out h.left_over t in
    let first = first_of h.rest out line.rest ended gives line.parts in
    record { part = part; number = number; rest = h.rest; gone = h.gone; line = out; others = first.0; first = first.1; right = f }
told_fault (Some text) left new part number out ended fault.ReadFault h gives t f = absurd f
told_fault (Some text) left new part number out ended (fault.Line n breach) h gives t f =
    let line = took left new (Ok (Text ended)) h.rest out h.left_over t in
    line_answers text part number h.rest out line.rest ended (is_faulty breach) h.gone gives line.parts f.1 (λ p. λ never. absurd cc) ∙ ap (λ (k : ℕ). head.Faulty k breach) (sym f.0)
told_fault (Some text) left new part number out ended fault.Empty h gives t f = absurd f
told_fault (Some text) left new part number out ended fault.Unfinished h gives t f = absurd f

pub told_long : (told left new : Option (List ℕ)) (part : Part) (number : ℕ) (out : List ℕ) → IsTold told part number left → HandsOut Long out → TookOf left (Ok Long) out new
    → IfSome told (λ text. HeadAnswers (Err (fault.Line number (at_word 0 LineTooLong))) text new)
told_long None left new part number out h gives t = tt
told_long (Some text) left new part number out h gives t =
    let line = took left new (Ok Long) h.rest out h.left_over t in
    long_line text part number h.rest out line.rest h.gone line.parts gives.0 gives.1

pub told_empty : (told left new : Option (List ℕ)) (part : Part) (number : ℕ) (out : List ℕ) → IsTold told part number left → TookOf left (Ok End) out new → number ≡ 1 → IfSome told (λ text. HeadAnswers (Err fault.Empty) text new)
told_empty None left new part number out h t first = tt
told_empty (Some text) left new part number out h t first =
    let line = took left new (Ok End) h.rest out h.left_over t in
    (empty_text text part number h.rest h.gone line.parts.0 first, line.left_over ∙ ap (λ (r : List ℕ). Some r) line.parts.1)

-- a line was taken, or is at fault
pub line_told : (before next : Draft) (number after : ℕ) (ended : Bool) (out : List ℕ) → HasTakenHead before number out next after true → AnswersLine before.part number ended out next.part after (Ok true)
line_told before next number after ended out h =
    λ left later gives t told g. told_log told left later before.part number out ended next.part.config g gives t h.0 (ap (λ (p : Part). p.config) h.1)

pub line_told_on : (before next : Draft) (number after : ℕ) (out : List ℕ) → HasTakenHead before number out next after false → AnswersLine before.part number true out next.part after (Ok false)
line_told_on before next number after out h =
    λ left later gives t told g. told_goes told left later before.part next.part number after out g gives t h.0 h.2

pub line_told_last : (before next : Draft) (number after : ℕ) (out : List ℕ) → HasTakenHead before number out next after false → AnswersLine before.part number false out next.part after (Err fault.Unfinished)
line_told_last before next number after out h =
    λ left later gives t told g. told_ends told left later before.part next.part number out g gives t h.0

pub line_told_fault : (before : Part) (next : Part) (number after : ℕ) (ended : Bool) (out : List ℕ) (why : TraceFault) → IsHeadLineAtFault before number out why → AnswersLine before number ended out next after (Err why)
line_told_fault before next number after ended out why h =
    λ left later gives t told g. told_fault told left later before number out ended why g gives t h

-- a line that begins the log stands after a whole trace
pub head_read : (before next : Draft) (number after : ℕ) (line : List ℕ) → IsReading before number → HasTakenHead before number line next after true → IsWellFormed next.part.config
head_read before next number after line r h =
    read_whole next.part (subst IsDraft (sym h.1) r.draft)
    (ap (λ (p : Part). p.place) h.1 ∙ log_at_end (next_line number before.part line) before.part.place (words (content line)) h.0)

-- no read failed where a line is at fault
pub no_read : (part : Part) (number : ℕ) (line : List ℕ) (why : TraceFault) → IsHeadLineAtFault part number line why → (count : ℕ) → CountsByHead (Err why) count count
no_read part number line fault.NoMemory h count = refl
no_read part number line fault.ReadFault h count = absurd h
no_read part number line (fault.Line n breach) h count = refl
no_read part number line fault.Empty h count = absurd h
no_read part number line fault.Unfinished h count = absurd h

pub quiet_counts : (answer : Result Bool TraceFault) (before now : ℕ) → now ≡ before → CountsByHead answer before before → CountsByHead answer before now
quiet_counts answer before now e h = subst (λ (n : ℕ). CountsByHead answer before n) (sym e) h
