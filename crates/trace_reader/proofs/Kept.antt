-- The first bytes of the line that is at fault.
use Rattle.std.proofs.Common.{◌≡◌, ◌≢◌, ℕ, ◌+◌, ◌-◌, ◌<◌, ◌≤◌, Bool, List, [], ◌∷◌, ◌++◌, length, take, drop, get_or, All, Option, Some, None, Result, Ok, Err, sym, ap, ◌∙◌, append_assoc, arith}
use Rattle.std.specs.Prelude.{IfSome, IfErr}
use Rattle.std.specs.Io.KnownBytes.{IsAtEnd}
use Rattle.std.proofs.Math.Nat.{add-zero}
use Rattle.std.proofs.lemmas.List.{append-nil, get_or-drop, take-append-le}
use Rattle.vm_types.specs.declared.config.Config.{Config}
use Rattle.outside_io.specs.declared.lines.Line.TheVariants.{Text, Long, End}
use Rattle.outside_io.specs.HandedOut.{HandsOut}
use Rattle.outside_io.specs.LineText.{line_text}
use Rattle.trace_words.specs.declared.cause.Cause.TheVariants.{LineTooLong}
use Rattle.trace_lines.specs.declared.part.Part.{Part}
use Rattle.trace_lines.specs.Breaches.{at_word}
use Rattle.trace_reader.specs.declared.draft.Draft.{Draft}
use Rattle.trace_reader.specs.declared.fault.TraceFault.{TraceFault}
use Rattle.trace_reader.specs.declared.fault.TraceFault.TheVariants as fault
use Rattle.trace_reader.specs.Changes.{start}
use Rattle.trace_reader.specs.HeadAnswer.{IsTold}
use Rattle.trace_reader.specs.LineText.{IsTextOf}
use Rattle.trace_reader.specs.Meaning.{lines}
use Rattle.trace_reader.specs.Stream.{Follows, IsFrontTaken, IsHeld, KeepsFaulty, KeepsLast, KeepsLine}
use Rattle.trace_reader.proofs.HeadLines.{first_of}
use Rattle.trace_reader.proofs.HeadReads.{TookOf, took, told_empty}
use Rattle.trace_reader.proofs.Judging.{begun, first_line}
use Rattle.trace_reader.proofs.Pieces.{whole_follows}
use Rattle.trace_reader.proofs.Reading.{none_taken}
use Rattle.trace_reader.proofs.Splitting.{lines_none}

-- the line behind so many others
at_line : (ls : List (List ℕ)) (k : ℕ) (line : List ℕ) (others : List (List ℕ)) → drop k ls ≡ line ∷ others → get_or ls k [] ≡ line
at_line ls k line others stands =
    ap (λ (i : ℕ). get_or ls i []) (sym (add-zero k)) ∙ sym (get_or-drop k ls 0 []) ∙ ap (λ (xs : List (List ℕ)). get_or xs 0 []) stands

front_at : (ls : List (List ℕ)) (k : ℕ) (line kept : List ℕ) (others : List (List ℕ)) → drop k ls ≡ line ∷ others → kept ≡ take 80 line → kept ≡ take 80 (get_or ls k [])
front_at ls k line kept others stands same = same ∙ ap (λ (xs : List ℕ). take 80 xs) (sym (at_line ls k line others stands))

-- a line that goes on behind its first bytes
front_long : (front rest kept : List ℕ) → 80 ≤ length front → kept ≡ take 80 front → kept ≡ take 80 (front ++ rest)
front_long front rest kept long same = same ∙ sym (take-append-le 80 front rest long)

-- a line of a piece
pub kept_here : (before : Part) (first : ℕ) (piece : List ℕ) (now : Draft) (number : ℕ) (rest line after kept : List ℕ) (f : TraceFault)
    → IsFrontTaken before first piece now number rest → rest ≡ line ++ 10 ∷ after → All (λ b. b ≢ 10) line → KeepsLine number line kept f → KeepsFaulty first piece kept f
kept_here before first piece now number rest line after kept fault.NoMemory t cut other h = tt
kept_here before first piece now number rest line after kept fault.ReadFault t cut other h = tt
kept_here before first piece now number rest line after kept (fault.Line n breach) t cut other h = (
  omega (arith, t.later, h.0),
  λ more.
      let some = first_line line after more other in
      let stands : drop (n - first) (lines (piece ++ more)) ≡ line ∷ some.0 ∷ some.1 =
      ap (λ (k : ℕ). drop (k - first) (lines (piece ++ more))) h.0 ∙ (whole_follows before first piece now number rest t).counted more
      ∙ ap (λ (r : List ℕ). lines (r ++ more)) cut ∙ some.2 in
      front_at (lines (piece ++ more)) (n - first) line kept (some.0 ∷ some.1) stands h.1,
)
kept_here before first piece now number rest line after kept fault.Empty t cut other h = absurd h
kept_here before first piece now number rest line after kept fault.Unfinished t cut other h = tt

pub kept_long : (before : Part) (first : ℕ) (piece : List ℕ) (now : Draft) (number : ℕ) (rest kept : List ℕ)
    → IsFrontTaken before first piece now number rest → All (λ b. b ≢ 10) rest → 255 < length rest → kept ≡ take 80 rest
    → KeepsFaulty first piece kept (fault.Line number (at_word 0 LineTooLong))
kept_long before first piece now number rest kept t other long same = (
  t.later,
  λ more.
      let tail = begun rest more other in
      let stands : drop (number - first) (lines (piece ++ more)) ≡ (rest ++ tail.0) ∷ tail.1 =
      (whole_follows before first piece now number rest t).counted more ∙ tail.2 in
      front_at (lines (piece ++ more)) (number - first) (rest ++ tail.0) kept tail.1 stands (front_long rest tail.0 kept (omega (arith, long)) same),
)

-- a line of the whole text
line_of : (text done piece rest kept : List ℕ) (part : Part) (number n : ℕ) → text ≡ (done ++ piece) ++ rest → Follows start 1 done part number [] → number ≤ n
    → kept ≡ take 80 (get_or (lines (piece ++ rest)) (n - number) []) → kept ≡ line_text n text
line_of text done piece rest kept part number n whole follows later same =
    let stands : drop (number - 1) (lines text) ≡ lines (piece ++ rest) =
    ap (λ (t : List ℕ). drop (number - 1) (lines t)) (whole ∙ append_assoc done piece rest) ∙ follows.counted (piece ++ rest) in
    let place : n - 1 ≡ (number - 1) + (n - number) = omega (arith, follows.onward, later) in
    let there : get_or (lines text) (n - 1) [] ≡ get_or (lines (piece ++ rest)) (n - number) [] =
    ap (λ (k : ℕ). get_or (lines text) k []) place ∙ sym (get_or-drop (number - 1) (lines text) (n - number) [])
    ∙ ap (λ (ls : List (List ℕ)). get_or ls (n - number) []) stands in
    same ∙ ap (λ (xs : List ℕ). take 80 xs) (sym there)

pub piece_kept : (told new : Option (List ℕ)) (piece kept : List ℕ) (part : Part) (number : ℕ) (f : TraceFault)
    → IfSome told (λ t. IsHeld t new part number piece) → KeepsFaulty number piece kept f → IsTextOf f told kept
piece_kept told new piece kept part number fault.NoMemory h k = tt
piece_kept told new piece kept part number fault.ReadFault h k = tt
piece_kept None new piece kept part number (fault.Line n breach) h k = tt
piece_kept (Some text) new piece kept part number (fault.Line n breach) h k =
    line_of text h.done piece h.split.rest kept part number n h.split.whole h.follows k.0 (k.1 h.split.rest)
piece_kept told new piece kept part number fault.Empty h k = absurd k
piece_kept told new piece kept part number fault.Unfinished h k = tt

-- the last line, behind which nothing is left
none_left : (new : Option (List ℕ)) (rest : List ℕ) → new ≡ Some rest → IsAtEnd new → rest ≡ []
none_left None rest e at = absurd cc
none_left (Some xs) rest e at = let same : xs ≡ rest = cc in sym same ∙ at

last_kept : (text : List ℕ) (new : Option (List ℕ)) (part : Part) (number n : ℕ) (pending kept : List ℕ) → IsHeld text new part number pending → IsAtEnd new
    → All (λ b. b ≢ 10) pending → n ≡ number → kept ≡ take 80 pending → kept ≡ line_text n text
last_kept text new part number n pending kept h at other is same =
    let none : h.split.rest ≡ [] = none_left new h.split.rest h.split.left_over at in
    let only : lines (pending ++ h.split.rest) ≡ pending ∷ [] =
    ap (λ (r : List ℕ). lines (pending ++ r)) none ∙ ap lines (append-nil pending) ∙ lines_none pending other in
    let first : n - number ≡ 0 = omega (arith, is) in
    let stands : drop (n - number) (lines (pending ++ h.split.rest)) ≡ pending ∷ [] =
    ap (λ (k : ℕ). drop k (lines (pending ++ h.split.rest))) first ∙ only in
    line_of text h.done pending h.split.rest kept part number n h.split.whole h.follows (omega (arith, is))
    (front_at (lines (pending ++ h.split.rest)) (n - number) pending kept [] stands same)

pub end_kept : (result : Result Config TraceFault) (told new : Option (List ℕ)) (pending kept : List ℕ) (part : Part) (number : ℕ)
    → IfSome told (λ t. IsHeld t new part number pending) → IsAtEnd new → All (λ b. b ≢ 10) pending
    → IfErr result (KeepsLast number pending kept) → IfErr result (λ f. IsTextOf f told kept)
end_kept (Ok config) told new pending kept part number h at other k = tt
end_kept (Err fault.NoMemory) told new pending kept part number h at other k = tt
end_kept (Err fault.ReadFault) told new pending kept part number h at other k = tt
end_kept (Err (fault.Line n breach)) None new pending kept part number h at other k = tt
end_kept (Err (fault.Line n breach)) (Some text) new pending kept part number h at other k = last_kept text new part number n pending kept h at other k.0 k.1
end_kept (Err fault.Empty) None new pending kept part number h at other k = tt
end_kept (Err fault.Empty) (Some text) new pending kept part number h at other k =
    none_taken text h.done pending h.split.rest part number h.split.whole (none_left new h.split.rest h.split.left_over at) h.follows k.0 k.1
end_kept (Err fault.Unfinished) told new pending kept part number h at other k = tt

-- nothing stands in front of a log
pub head_empty : (told left new : Option (List ℕ)) (part : Part) (number : ℕ) (out kept : List ℕ) → IsTold told part number left → TookOf left (Ok End) out new → number ≡ 1 → IsTextOf fault.Empty told kept
head_empty None left new part number out kept h t first = tt
head_empty (Some text) left new part number out kept h t first = (told_empty (Some text) left new part number out h t first).0

-- a line in front of a log
head_kept : (told left new : Option (List ℕ)) (part : Part) (number : ℕ) (out kept : List ℕ) (ended : Bool) (f : TraceFault)
    → IsTold told part number left → HandsOut (Text ended) out → TookOf left (Ok (Text ended)) out new → KeepsLine number out kept f → IsTextOf f told kept
head_kept told left new part number out kept ended fault.NoMemory h gives t k = tt
head_kept told left new part number out kept ended fault.ReadFault h gives t k = tt
head_kept None left new part number out kept ended (fault.Line n breach) h gives t k = tt
head_kept (Some text) left new part number out kept ended (fault.Line n breach) h gives t k =
    let line = took left new (Ok (Text ended)) h.rest out h.left_over t in
    let first = first_of h.rest out line.rest ended gives line.parts in
    let stands : drop (n - 1) (lines text) ≡ out ∷ first.0 = ap (λ (i : ℕ). drop (i - 1) (lines text)) k.0 ∙ h.gone.counted ∙ first.1 in
    front_at (lines text) (n - 1) out kept first.0 stands k.1
head_kept told left new part number out kept ended fault.Empty h gives t k = absurd k
head_kept told left new part number out kept ended fault.Unfinished h gives t k = tt

pub answer_kept : (answer : Result Bool TraceFault) (told left new : Option (List ℕ)) (part : Part) (number : ℕ) (out kept : List ℕ) (ended : Bool)
    → IsTold told part number left → HandsOut (Text ended) out → TookOf left (Ok (Text ended)) out new → IfErr answer (KeepsLine number out kept) → IfErr answer (λ f. IsTextOf f told kept)
answer_kept (Ok begins) told left new part number out kept ended h gives t k = tt
answer_kept (Err f) told left new part number out kept ended h gives t k = head_kept told left new part number out kept ended f h gives t k

pub head_kept_long : (told left new : Option (List ℕ)) (part : Part) (number : ℕ) (out kept : List ℕ)
    → IsTold told part number left → HandsOut Long out → TookOf left (Ok Long) out new → kept ≡ take 80 out → IsTextOf (fault.Line number (at_word 0 LineTooLong)) told kept
head_kept_long None left new part number out kept h gives t same = tt
head_kept_long (Some text) left new part number out kept h gives t same =
    let line = took left new (Ok Long) h.rest out h.left_over t in
    let tail = begun out line.rest gives.0 in
    let stands : drop (number - 1) (lines text) ≡ (out ++ tail.0) ∷ tail.1 = h.gone.counted ∙ ap lines line.parts ∙ tail.2 in
    front_at (lines text) (number - 1) (out ++ tail.0) kept tail.1 stands (front_long out tail.0 kept (omega (arith, gives.1)) same)
