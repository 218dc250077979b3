-- The lines of a piece, one after another.
use Rattle.std.proofs.Common.{◌≡◌, ◌≢◌, ℕ, ◌+◌, ◌<◌, ◌≤◌, List, [], ◌∷◌, ◌++◌, length, All, Result, Ok, Err, refl, sym, ap, subst, ◌∙◌, append_assoc, append-nil, arith, drop, ◌-◌, length-append}
use Rattle.std.proofs.Math.Seq.{drop-append_seam}
use Rattle.std.specs.Prelude.{IsOk}
use Rattle.vm_types.specs.declared.config.Task.{Task}
use Rattle.vm_types.specs.declared.limits.TheConstants.{MOST_LONG_LINES}
use Rattle.trace_words.specs.declared.cause.Cause.TheVariants.{LineTooLong}
use Rattle.trace_lines.specs.declared.breach.Breach.{Breach}
use Rattle.trace_lines.specs.declared.part.Part.{Part}
use Rattle.trace_lines.specs.Breaches.{at_word}
use Rattle.trace_lines.specs.Grammar.{judged}
use Rattle.trace_lines.specs.Plain.{IsFirstRequest}
use Rattle.trace_lines.specs.Says.{Request}
use Rattle.trace_lines.specs.Seen.{IsSeen}
use Rattle.trace_reader.specs.declared.draft.Draft.{Draft}
use Rattle.trace_reader.specs.declared.fault.TraceFault.{TraceFault}
use Rattle.trace_reader.specs.declared.fault.TraceFault.TheVariants as fault
use Rattle.trace_reader.specs.Changes.{changed}
use Rattle.trace_reader.specs.Meaning.{Faulty, next_line, judge, is_open, lines}
use Rattle.trace_reader.specs.Stream.{Follows, IsReading, HasTaken, IsFrontTaken, IsPieceTaken, IsLineAtFault, IsAtFault, IsOpenFront}
use Rattle.trace_reader.proofs.Splitting.{lines_none}
use Rattle.trace_reader.proofs.Drafting.{next_draft, next_number}
use Rattle.trace_reader.proofs.Judging.{follows_same, follows_then, follows_more, follows_line, fault_line, shut_line, fault_long, shut_long}

-- the whole piece is judged as its rest is
pub whole_follows : (before : Part) (first : ℕ) (piece : List ℕ) (now : Draft) (number : ℕ) (rest : List ℕ) → IsFrontTaken before first piece now number rest → Follows before first piece now.part number rest
whole_follows before first piece now number rest t =
    subst (λ (p : List ℕ). Follows before first p now.part number rest) (sym t.split) (follows_more before now.part first number t.front [] rest t.follows)

-- one line more
line_follows : (before part next : Part) (first number : ℕ) (front line : List ℕ) → Follows before first front part number [] → All (λ b. b ≢ 10) line → next_line number part line ≡ Ok next
    → Follows before first (front ++ (line ++ 10 ∷ [])) next (number + 1) []
line_follows before part next first number front line f other e =
    follows_then before part next first number (number + 1) (front ++ (line ++ 10 ∷ [])) (line ++ 10 ∷ []) []
    (follows_more before part first number front [] (line ++ 10 ∷ []) f) (follows_line part next number line [] other e)

moved_on : (piece front rest line after : List ℕ) → piece ≡ front ++ rest → rest ≡ line ++ 10 ∷ after → piece ≡ (front ++ (line ++ 10 ∷ [])) ++ after
moved_on piece front rest line after split cut =
    split ∙ ap (λ (r : List ℕ). front ++ r) (cut ∙ sym (append_assoc line (10 ∷ []) after)) ∙ sym (append_assoc front (line ++ 10 ∷ []) after)

pub take_line : (before : Part) (first : ℕ) (piece : List ℕ) (now : Draft) (number : ℕ) (rest line after : List ℕ) (next : Draft) (later : ℕ)
    → IsFrontTaken before first piece now number rest → rest ≡ line ++ 10 ∷ after → All (λ b. b ≢ 10) line → HasTaken now number line next later
    → IsFrontTaken before first piece next later after
take_line before first piece now number rest line after next later t cut other taken = record {
  front = t.front ++ (line ++ 10 ∷ []);
  split = moved_on piece t.front rest line after t.split cut;
  follows = subst (λ (n : ℕ). Follows before first (t.front ++ (line ++ 10 ∷ [])) next.part n []) (sym taken.counted) (line_follows before now.part next.part first number t.front line t.follows other taken.taken);
  reading = taken.reading;
  later = omega (arith, t.later, taken.counted);
  same = λ h. absurd (omega (arith, h, t.later, taken.counted));
}

-- the front was taken, and then the front of the rest
pub front_then : (before : Part) (first : ℕ) (piece : List ℕ) (now : Draft) (number : ℕ) (rest : List ℕ) (next : Draft) (later : ℕ) (after : List ℕ)
    → IsFrontTaken before first piece now number rest → IsFrontTaken now.part number rest next later after → IsFrontTaken before first piece next later after
front_then before first piece now number rest next later after t u = record {
  front = t.front ++ u.front;
  split = t.split ∙ ap (λ (r : List ℕ). t.front ++ r) u.split ∙ sym (append_assoc t.front u.front after);
  follows = follows_then before now.part next.part first number later (t.front ++ u.front) u.front [] (follows_more before now.part first number t.front [] u.front t.follows) u.follows;
  reading = u.reading;
  later = omega (arith, t.later, u.later);
  same = λ h. let first_same : number ≡ first = omega (arith, h, t.later, u.later) in u.same (h ∙ sym first_same) ∙ t.same first_same;
}

-- a fault of the rest is one of the whole piece
pub fault_then : (before : Part) (first : ℕ) (piece : List ℕ) (now : Draft) (number : ℕ) (rest : List ℕ) (f : TraceFault)
    → IsFrontTaken before first piece now number rest → IsAtFault now.part number rest f → IsAtFault before first piece f
fault_then before first piece now number rest fault.NoMemory t h = record {
  front = t.front ++ h.front;
  rest = h.rest;
  whole = t.split ∙ ap (λ (r : List ℕ). t.front ++ r) h.whole ∙ sym (append_assoc t.front h.front h.rest);
  opened = ap (λ (r : List ℕ). is_open first before (lines r)) (sym (append-nil (t.front ++ h.front))) ∙ (follows_more before now.part first number t.front [] h.front t.follows).opened []
      ∙ ap (λ (r : List ℕ). is_open number now.part (lines r)) (append-nil h.front) ∙ h.opened;
}
fault_then before first piece now number rest fault.ReadFault t h = absurd h
fault_then before first piece now number rest (fault.Line n breach) t h =
    let whole = whole_follows before first piece now number rest t in (
      (λ more. whole.judged more ∙ h.0 more),
      ap (λ (r : List ℕ). is_open first before (lines r)) (sym (append-nil piece)) ∙ whole.opened [] ∙ ap (λ (r : List ℕ). is_open number now.part (lines r)) (append-nil rest) ∙ h.1,
    )
fault_then before first piece now number rest fault.Empty t h = absurd h
fault_then before first piece now number rest fault.Unfinished t h = absurd h

-- nothing was taken yet
pub none_taken : (draft : Draft) (number : ℕ) (text : List ℕ) → IsReading draft number → IsFrontTaken draft.part number text draft number text
none_taken draft number text h = record { front = []; split = refl; follows = follows_same draft.part number []; reading = h; later = omega arith; same = λ e. refl }

-- the first line asks for a request

next_asks : (number : ℕ) (part : Part) (line : List ℕ) (task : Task) → judged number part line ≡ Ok (Request task) → next_line number part line ≡ Ok (changed part (Request task))
next_asks number part line task e = rw e refl

pub has_asked : (held : Draft) (number : ℕ) (text : List ℕ) (task : Task) (rest : List ℕ) (next : Draft) → IsReading held number → (asked : IsFirstRequest number held.part text task rest)
    → next.part ≡ changed held.part (Request task) → IsSeen next.seen next.part.config → HasTaken held number asked.line next (number + 1)
has_asked held number text task rest next h asked same seen =
    let taken : next_line number held.part asked.line ≡ Ok next.part = next_asks number held.part asked.line task asked.asks ∙ ap (λ (p : Part). Ok p) (sym same) in
    let few : number ≤ MOST_LONG_LINES = next_number number held.part next.part asked.line h.draft taken in
    record {
      taken = taken;
      counted = refl;
      reading = record { seen = seen; draft = next_draft number held.part next.part asked.line h.draft taken; few = omega (arith, few) };
    }

pub take_request : (before : Part) (first : ℕ) (piece : List ℕ) (now : Draft) (number : ℕ) (rest after : List ℕ) (task : Task) (next : Draft)
    → IsFrontTaken before first piece now number rest → IsFirstRequest number now.part rest task after → next.part ≡ changed now.part (Request task) → IsSeen next.seen next.part.config
    → IsFrontTaken before first piece next (number + 1) after
take_request before first piece now number rest after task next t asked same seen =
    take_line before first piece now number rest asked.line after next (number + 1) t asked.split asked.one_line (has_asked now number rest task after next t.reading asked same seen)

is_ok_value : {A : Type 0} (r : Result A Breach) → IsOk r → (x : A) × (r ≡ Ok x)
is_ok_value (Ok x) h = (x, refl)
is_ok_value (Err breach) h = absurd cc

-- memory ran out at a line that is right
open_front : (before part next : Part) (first number : ℕ) (piece front rest line after : List ℕ) → Follows before first front part number [] → piece ≡ front ++ rest → rest ≡ line ++ 10 ∷ after
    → All (λ b. b ≢ 10) line → next_line number part line ≡ Ok next → IsOpenFront before first piece
open_front before part next first number piece front rest line after f split cut other e = record {
  front = front ++ (line ++ 10 ∷ []);
  rest = after;
  whole = moved_on piece front rest line after split cut;
  opened = ap (λ (r : List ℕ). is_open first before (lines r)) (sym (append-nil (front ++ (line ++ 10 ∷ [])))) ∙ (line_follows before part next first number front line f other e).opened [];
}

pub fault_here : (before : Part) (first : ℕ) (piece : List ℕ) (now : Draft) (number : ℕ) (rest line after : List ℕ) (f : TraceFault)
    → IsFrontTaken before first piece now number rest → rest ≡ line ++ 10 ∷ after → All (λ b. b ≢ 10) line → IsLineAtFault now.part number line f
    → IsAtFault before first piece f
fault_here before first piece now number rest line after fault.NoMemory t cut other h =
    let some = is_ok_value (next_line number now.part line) h in
    open_front before now.part some.0 first number piece t.front rest line after t.follows t.split cut other some.1
fault_here before first piece now number rest line after fault.ReadFault t cut other h = absurd h
fault_here before first piece now number rest line after (fault.Line n breach) t cut other h =
    let whole = whole_follows before first piece now number rest t in (
      (λ more. whole.judged more ∙ ap (λ (r : List ℕ). judge number now.part (lines (r ++ more))) cut ∙ fault_line now.part number breach line after more other h.1 ∙ ap (λ (k : ℕ). Faulty k breach) (sym h.0)),
      ap (λ (r : List ℕ). is_open first before (lines r)) (sym (append-nil piece)) ∙ whole.opened [] ∙ ap (λ (r : List ℕ). is_open number now.part (lines (r ++ []))) cut ∙ shut_line now.part number breach line after [] other h.1,
    )
fault_here before first piece now number rest line after fault.Empty t cut other h = absurd h
fault_here before first piece now number rest line after fault.Unfinished t cut other h = absurd h

pub fault_in_long : (before : Part) (first : ℕ) (piece : List ℕ) (now : Draft) (number : ℕ) (rest : List ℕ)
    → IsFrontTaken before first piece now number rest → All (λ b. b ≢ 10) rest → 255 < length rest
    → IsAtFault before first piece (fault.Line number (at_word 0 LineTooLong))
fault_in_long before first piece now number rest t other long =
    let whole = whole_follows before first piece now number rest t in (
      (λ more. whole.judged more ∙ fault_long now.part number rest more other long),
      ap (λ (r : List ℕ). is_open first before (lines r)) (sym (append-nil piece)) ∙ whole.opened [] ∙ ap (λ (r : List ℕ). is_open number now.part (lines r)) (append-nil rest)
          ∙ ap (is_open number now.part) (lines_none rest other) ∙ shut_long now.part number rest [] long,
    )

-- memory ran out at a request that is right
pub no_room : (before : Part) (first : ℕ) (piece : List ℕ) (now : Draft) (number : ℕ) (rest after : List ℕ) (task : Task)
    → IsFrontTaken before first piece now number rest → IsFirstRequest number now.part rest task after → IsAtFault before first piece fault.NoMemory
no_room before first piece now number rest after task t asked =
    open_front before now.part (changed now.part (Request task)) first number piece t.front rest asked.line after t.follows t.split asked.split asked.one_line (next_asks number now.part asked.line task asked.asks)

-- no whole line is left
pub piece_taken : (before : Part) (first : ℕ) (piece : List ℕ) (now : Draft) (number : ℕ) (rest : List ℕ) → IsFrontTaken before first piece now number rest → All (λ b. b ≢ 10) rest → length rest ≤ 255
    → IsPieceTaken before first piece now number (length rest)
piece_taken before first piece now number rest t other few =
    let whole : length piece ≡ length t.front + length rest = ap (λ (p : List ℕ). length p) t.split ∙ length-append t.front rest in
    let left : drop (length piece - length rest) piece ≡ rest =
    ap (λ (n : ℕ). drop n piece) (omega (arith, whole)) ∙ ap (λ (p : List ℕ). drop (length t.front) p) t.split ∙ drop-append_seam t.front rest in
    record {
      bound = omega (arith, whole);
      front = t.front;
      split = t.split ∙ ap (λ (r : List ℕ). t.front ++ r) (sym left);
      follows = t.follows;
      one_line = subst (λ (r : List ℕ). All (λ b. b ≢ 10) r) (sym left) other;
      few = few;
      reading = t.reading;
      later = t.later;
      same = λ h. ap (λ (r : List ℕ). length r) (t.same h);
    }
