-- A text that is read in pieces.
use Rattle.std.proofs.Common.{◌≡◌, ◌≢◌, ℕ, ◌+◌, ◌-◌, ◌≤◌, true, List, [], ◌++◌, length, take, drop, All, Option, Some, None, Result, Ok, Err, refl, sym, ap, ap₂, subst, ◌∙◌, append_assoc, arith, lit≤, inl, inr}
use Rattle.std.specs.Prelude.{IfSome}
use Rattle.std.specs.List.{copy_within}
use Rattle.std.specs.Io.KnownBytes.{Keeps, Consumes, IsAtEnd}
use Rattle.std.proofs.lemmas.List.{append-nil, take_at, drop-take, length-append, length-drop, length-take-le}
use Rattle.std.proofs.lemmas.List.Elements.{All-nil}
use Rattle.std.proofs.Math.Seq.{take-add}
use Rattle.vm_types.specs.declared.config.Config.{Config}
use Rattle.trace_lines.specs.declared.part.Part.{Part}
use Rattle.trace_lines.specs.Seen.{IsSeen}
use Rattle.trace_reader.specs.declared.draft.Draft.{Draft}
use Rattle.trace_reader.specs.declared.fault.TraceFault.{TraceFault}
use Rattle.trace_reader.specs.declared.fault.TraceFault.TheVariants as fault
use Rattle.trace_reader.specs.Answer.{AnswersTrace, IsTextTaken, HasShown, IsRightSoFar}
use Rattle.trace_reader.specs.Changes.{start}
use Rattle.trace_reader.specs.Drafts.{IsDraft}
use Rattle.trace_reader.specs.Meaning.{at_end, judge, lines, trace_of, shows_no_fault}
use Rattle.trace_reader.specs.Stream.{Follows, IsReading, IsHeld, IsAtFault, IsOpenFront, IsPieceTaken, Means}
use Rattle.trace_reader.proofs.Judging.{follows_same, follows_then, follows_more, last_line}
use Rattle.trace_reader.proofs.Drafting.{start_draft}
use Rattle.trace_reader.proofs.Splitting.{lines_none, no_lines}

-- between two reads: whole lines were taken, and the buffer begins with a part of the next one
pub record IsBetween (text left : Option (List ℕ)) (buffer : List ℕ) (held : Draft) (number count : ℕ) : Type 0 where
  pub room : length buffer ≡ 8192
  pub few : count ≤ 255
  pub reading : IsReading held number
  pub one_line : All (λ b. b ≢ 10) (take count buffer)
  pub told : IfSome text (λ t. IsHeld t left held.part number (take count buffer))

held_first : (told : Option (List ℕ)) → IfSome told (λ t. IsHeld t told start 1 [])
held_first None = tt
held_first (Some text) = record { done = []; split = record { rest = text; whole = refl; left_over = refl }; follows = follows_same start 1 [] }

pub from_start : (told : Option (List ℕ)) (buffer : List ℕ) (held : Draft) (number : ℕ) → length buffer ≡ 8192 → held.part ≡ start → number ≡ 1 → IsSeen held.seen held.part.config → IsBetween told told buffer held number 0
from_start told buffer held number room p n seen = record {
  room = room;
  few = lit≤ tt;
  reading = record { seen = seen; draft = subst IsDraft (sym p) start_draft; few = omega (arith, n) };
  one_line = All-nil (λ b. b ≢ 10);
  told = rw (p, n) (held_first told);
}

-- a read that failed

kept : (left new : Option (List ℕ)) (rest : List ℕ) → left ≡ Some rest → Keeps left new → new ≡ Some rest
kept None new rest e k = absurd cc
kept (Some xs) None rest e k = absurd k
kept (Some xs) (Some ys) rest e k = ap (λ (zs : List ℕ). Some zs) k ∙ e

pub no_fault : (done pending : List ℕ) (part : Part) (number : ℕ) → All (λ b. b ≢ 10) pending → length pending ≤ 255 → Follows start 1 done part number [] → shows_no_fault (done ++ pending) ≡ true
no_fault done pending part number other few follows =
    follows.opened pending ∙ last_line part number pending other few

open_answer : (told left new : Option (List ℕ)) (pending : List ℕ) (part : Part) (number : ℕ) → All (λ b. b ≢ 10) pending → length pending ≤ 255
    → IfSome told (λ t. IsHeld t left part number pending) → Keeps left new → IfSome told (λ t. AnswersTrace (Err fault.ReadFault) t new)
open_answer None left new pending part number other few h k = tt
open_answer (Some text) left new pending part number other few h k =
    (h.done ++ pending, record { rest = h.split.rest; whole = h.split.whole; left_over = kept left new h.split.rest h.split.left_over k }, no_fault h.done pending part number other few h.follows)

length_held : (count : ℕ) (buffer : List ℕ) → count ≤ 255 → length buffer ≡ 8192 → length (take count buffer) ≡ count
length_held count buffer few room = length-take-le count buffer (omega arith)

pub read_failed : (told left new : Option (List ℕ)) (buffer : List ℕ) (held : Draft) (number count : ℕ)
    → IsBetween told left buffer held number count → Keeps left new → IfSome told (λ t. AnswersTrace (Err fault.ReadFault) t new)
read_failed told left new buffer held number count b k =
    let few : length (take count buffer) ≤ 255 = rw (length_held count buffer b.few b.room) b.few in
    open_answer told left new (take count buffer) held.part number b.one_line few b.told k

-- the end of the text

ended : (left new : Option (List ℕ)) (rest bytes : List ℕ) → left ≡ Some rest → bytes ≡ [] → Consumes left new bytes → IsAtEnd new → (rest ≡ []) × (new ≡ Some [])
ended None new rest bytes e none c at = absurd cc
ended (Some xs) None rest bytes e none c at = absurd c
ended (Some xs) (Some ys) rest bytes e none c at =
    let is : xs ≡ rest = cc in
    (sym is ∙ c ∙ ap (λ (bs : List ℕ). bs ++ ys) none ∙ at, ap (λ (zs : List ℕ). Some zs) at)

meaning_at_end : (text done pending rest : List ℕ) (part : Part) (number : ℕ) → text ≡ (done ++ pending) ++ rest → rest ≡ [] → All (λ b. b ≢ 10) pending → Follows start 1 done part number []
    → trace_of text ≡ at_end number part pending
meaning_at_end text done pending rest part number whole none other follows =
    ap trace_of (whole ∙ ap (λ (r : List ℕ). (done ++ pending) ++ r) none ∙ append-nil (done ++ pending)) ∙ follows.judged pending
    ∙ ap (judge number part) (lines_none pending other)

-- at the end the whole text was taken
all_taken : (text : List ℕ) (new : Option (List ℕ)) → new ≡ Some [] → HasShown text new
all_taken text new none = record { taken = text; split = record { rest = []; whole = sym (append-nil text); left_over = none }; shown = inr none }

right_until : (text done pending rest : List ℕ) (part : Part) (number : ℕ) (new : Option (List ℕ)) → text ≡ (done ++ pending) ++ rest → rest ≡ [] → new ≡ Some [] → All (λ b. b ≢ 10) pending → length pending ≤ 255
    → Follows start 1 done part number [] → IsRightSoFar text new
right_until text done pending rest part number new whole none over other few follows = record {
  judged = done ++ pending;
  piece = [];
  split = record { rest = []; whole = whole ∙ ap (λ (r : List ℕ). (done ++ pending) ++ r) none ∙ ap (λ (t : List ℕ). t ++ []) (sym (append-nil (done ++ pending))); left_over = over };
  few = lit≤ tt;
  right = no_fault done pending part number other few follows;
}

-- nothing was taken before the end: the text is empty
pub none_taken : (text done pending rest : List ℕ) (part : Part) (number : ℕ) → text ≡ (done ++ pending) ++ rest → rest ≡ [] → Follows start 1 done part number [] → pending ≡ [] → number ≡ 1 → text ≡ []
none_taken text done pending rest part number whole over follows nothing first =
    let all : lines done ≡ lines [] =
    ap (λ (t : List ℕ). lines t) (sym (append-nil done)) ∙ sym (ap (λ (n : ℕ). drop (n - 1) (lines (done ++ []))) first) ∙ follows.counted [] in
    whole ∙ ap (λ (r : List ℕ). (done ++ pending) ++ r) over ∙ append-nil (done ++ pending) ∙ ap₂ (λ (p : List ℕ) (q : List ℕ). p ++ q) (no_lines done all) nothing

answers_from : (result : Result Config TraceFault) (text done pending rest : List ℕ) (part : Part) (number : ℕ) (new : Option (List ℕ)) → trace_of text ≡ at_end number part pending → new ≡ Some []
    → IsRightSoFar text new → (pending ≡ [] → number ≡ 1 → text ≡ []) → Means number part pending result (at_end number part pending) → AnswersTrace result text new
answers_from (Ok config) text done pending rest part number new e none right bare m = (e ∙ m, none)
answers_from (Err fault.NoMemory) text done pending rest part number new e none right bare m = right
answers_from (Err fault.ReadFault) text done pending rest part number new e none right bare m = absurd m
answers_from (Err (fault.Line n breach)) text done pending rest part number new e none right bare m = (e ∙ m, all_taken text new none)
answers_from (Err fault.Empty) text done pending rest part number new e none right bare m = (bare m.0 m.1, none)
answers_from (Err fault.Unfinished) text done pending rest part number new e none right bare m = (e ∙ m, none)

end_answer : (result : Result Config TraceFault) (told left new : Option (List ℕ)) (pending bytes : List ℕ) (part : Part) (number : ℕ) → All (λ b. b ≢ 10) pending → length pending ≤ 255
    → IfSome told (λ t. IsHeld t left part number pending) → bytes ≡ [] → Consumes left new bytes → IsAtEnd new → Means number part pending result (at_end number part pending)
    → IfSome told (λ t. AnswersTrace result t new)
end_answer result None left new pending bytes part number other few h none c at m = tt
end_answer result (Some text) left new pending bytes part number other few h none c at m =
    let over = ended left new h.split.rest bytes h.split.left_over none c at in
    answers_from result text h.done pending h.split.rest part number new (meaning_at_end text h.done pending h.split.rest part number h.split.whole over.0 other h.follows) over.1
    (right_until text h.done pending h.split.rest part number new h.split.whole over.0 over.1 other few h.follows)
    (none_taken text h.done pending h.split.rest part number h.split.whole over.0 h.follows) m

take_none : (n : ℕ) (xs : List ℕ) → n ≡ 0 → take n xs ≡ []
take_none n xs e = ap (λ (k : ℕ). take k xs) e

pub text_ended : (result : Result Config TraceFault) (told left new : Option (List ℕ)) (buffer filled : List ℕ) (held : Draft) (number count more : ℕ)
    → IsBetween told left buffer held number count → take count filled ≡ take count buffer → more ≡ 0
    → Consumes left new (take more (drop count filled)) → IsAtEnd new → Means number held.part (take count filled) result (at_end number held.part (take count filled))
    → IfSome told (λ t. AnswersTrace result t new)
text_ended result told left new buffer filled held number count more b same none c at m =
    let few : length (take count buffer) ≤ 255 = rw (length_held count buffer b.few b.room) b.few in
    end_answer result told left new (take count buffer) (take more (drop count filled)) held.part number b.one_line few b.told (take_none more (drop count filled) none) c at
    (subst (λ (p : List ℕ). Means number held.part p result (at_end number held.part p)) same m)

-- more bytes came

consumed : (left new : Option (List ℕ)) (rest bytes : List ℕ) → left ≡ Some rest → Consumes left new bytes → (after : List ℕ) × (new ≡ Some after) × (rest ≡ bytes ++ after)
consumed None new rest bytes e c = absurd cc
consumed (Some xs) None rest bytes e c = absurd c
consumed (Some xs) (Some ys) rest bytes e c = (ys, refl, (let is : xs ≡ rest = cc in sym is ∙ c))

held_more : (told left new : Option (List ℕ)) (pending bytes : List ℕ) (part : Part) (number : ℕ)
    → IfSome told (λ t. IsHeld t left part number pending) → Consumes left new bytes → IfSome told (λ t. IsHeld t new part number (pending ++ bytes))
held_more None left new pending bytes part number h c = tt
held_more (Some text) left new pending bytes part number h c =
    let more = consumed left new h.split.rest bytes h.split.left_over c in
    record {
      done = h.done;
      split = record { rest = more.0; whole = h.split.whole ∙ ap (λ (r : List ℕ). (h.done ++ pending) ++ r) more.2 ∙ sym (append_assoc (h.done ++ pending) bytes more.0) ∙ ap (λ (t : List ℕ). t ++ more.0) (append_assoc h.done pending bytes); left_over = more.1 };
      follows = h.follows;
    }

pub came : (told left new : Option (List ℕ)) (buffer filled : List ℕ) (held : Draft) (number count more : ℕ)
    → IsBetween told left buffer held number count → take count filled ≡ take count buffer → Consumes left new (take more (drop count filled))
    → IfSome told (λ t. IsHeld t new held.part number (take (count + more) filled))
came told left new buffer filled held number count more b same c =
    let joined : take count buffer ++ take more (drop count filled) ≡ take (count + more) filled =
    ap (λ (p : List ℕ). p ++ take more (drop count filled)) (sym same) ∙ sym (take-add count more filled) in
    subst (λ (p : List ℕ). IfSome told (λ t. IsHeld t new held.part number p)) joined
    (held_more told left new (take count buffer) (take more (drop count filled)) held.part number b.told c)

-- a line of the piece is at fault

right_so_far : (text done piece : List ℕ) (part : Part) (number : ℕ) (new : Option (List ℕ)) → IsTextTaken text (done ++ piece) new → length piece ≤ 8192 → Follows start 1 done part number []
    → IsOpenFront part number piece → IsRightSoFar text new
right_so_far text done piece part number new split few follows o = record {
  judged = done ++ o.front;
  piece = o.rest;
  split = subst (λ (t : List ℕ). IsTextTaken text t new) (ap (λ (p : List ℕ). done ++ p) o.whole ∙ sym (append_assoc done o.front o.rest)) split;
  few = omega (arith, length-append o.front o.rest, ap (length {A = ℕ}) o.whole);
  right = follows.opened o.front ∙ o.opened;
}

pub piece_fault : (told new : Option (List ℕ)) (piece : List ℕ) (part : Part) (number : ℕ) (f : TraceFault) → length piece ≤ 8192
    → IfSome told (λ t. IsHeld t new part number piece) → IsAtFault part number piece f → IfSome told (λ t. AnswersTrace (Err f) t new)
piece_fault None new piece part number f few h a = tt
piece_fault (Some text) new piece part number fault.NoMemory few h a = right_so_far text h.done piece part number new h.split few h.follows a
piece_fault (Some text) new piece part number fault.ReadFault few h a = absurd a
piece_fault (Some text) new piece part number (fault.Line n breach) few h a = (
  ap trace_of (h.split.whole ∙ append_assoc h.done piece h.split.rest) ∙ h.follows.judged (piece ++ h.split.rest) ∙ a.0 h.split.rest,
  record { taken = h.done ++ piece; split = h.split; shown = inl (h.follows.opened piece ∙ a.1) },
)
piece_fault (Some text) new piece part number fault.Empty few h a = absurd a
piece_fault (Some text) new piece part number fault.Unfinished few h a = absurd a

-- the whole lines of the piece were taken

held_then : (told new : Option (List ℕ)) (piece front rest : List ℕ) (part next : Part) (number after : ℕ)
    → IfSome told (λ t. IsHeld t new part number piece) → piece ≡ front ++ rest → Follows part number front next after [] → IfSome told (λ t. IsHeld t new next after rest)
held_then None new piece front rest part next number after h split f = tt
held_then (Some text) new piece front rest part next number after h split f = record {
  done = h.done ++ front;
  split = record { rest = h.split.rest; whole = h.split.whole ∙ ap (λ (p : List ℕ). (h.done ++ p) ++ h.split.rest) split ∙ ap (λ (p : List ℕ). p ++ h.split.rest) (sym (append_assoc h.done front rest)); left_over = h.split.left_over };
  follows = follows_then start part next 1 number after (h.done ++ front) front [] (follows_more start part 1 number h.done [] front h.follows) f;
}

pub went_on : (told new : Option (List ℕ)) (piece buffer : List ℕ) (part : Part) (next : Draft) (number after count : ℕ)
    → IfSome told (λ t. IsHeld t new part number piece) → IsPieceTaken part number piece next after count
    → length buffer ≡ 8192 → take count buffer ≡ drop (length piece - count) piece → IsBetween told new buffer next after count
went_on told new piece buffer part next number after count h p room same = record {
  room = room;
  few = p.few;
  reading = p.reading;
  one_line = subst (λ (r : List ℕ). All (λ b. b ≢ 10) r) (sym same) p.one_line;
  told = subst (λ (r : List ℕ). IfSome told (λ t. IsHeld t new next.part after r)) (sym same) (held_then told new piece p.front (drop (length piece - count) piece) part next.part number after h p.split p.follows);
}

-- an answer that another one is equal to
pub answers_along : (told new : Option (List ℕ)) (r s : Result Config TraceFault) → r ≡ s → IfSome told (λ t. AnswersTrace s t new) → IfSome told (λ t. AnswersTrace r t new)
answers_along told new r s e h = subst (λ (x : Result Config TraceFault). IfSome told (λ t. AnswersTrace x t new)) (sym e) h

-- the last bytes of the filled ones, moved to the front
pub moved : (buffer : List ℕ) (filled held : ℕ) → filled ≤ length buffer → held ≤ filled → take held (copy_within buffer (filled - held) filled 0) ≡ drop (filled - held) (take filled buffer)
moved buffer filled held in_buffer in_filled =
    let back : filled - (filled - held) ≡ held = omega arith in
    let forth : (filled - held) + held ≡ filled = omega arith in
    let rest : held ≤ length (drop (filled - held) buffer) = rw length-drop (omega arith) in
    ap (λ (n : ℕ). take held (take n (drop (filled - held) buffer) ++ drop (0 + n) buffer)) back
    ∙ take_at (take held (drop (filled - held) buffer)) (drop (0 + held) buffer) held (length-take-le held (drop (filled - held) buffer) rest)
    ∙ sym (drop-take (filled - held) held buffer)
    ∙ ap (λ (n : ℕ). drop (filled - held) (take n buffer)) forth
