-- The lines before a log, one after another.
use Rattle.std.proofs.Common.{◌≡◌, ◌≢◌, ℕ, ◌+◌, ◌-◌, ◌<◌, Bool, true, false, List, [], ◌∷◌, ◌++◌, length, drop, Result, Ok, Err, refl, sym, ap, ◌∙◌, append_assoc, arith, lit≤}
use Rattle.std.specs.List.{join_with_byte}
use Rattle.std.proofs.lemmas.List.{drop-drop, length-append}
use Rattle.std.proofs.lemmas.List.Splits.{join_with_byte-slice_split}
use Rattle.trace_words.specs.declared.cause.Cause.{Cause}
use Rattle.trace_words.specs.declared.cause.Cause.TheVariants.{LineTooLong, UnknownWord}
use Rattle.trace_words.specs.Words.{words}
use Rattle.trace_lines.specs.declared.breach.Breach.{Breach}
use Rattle.trace_lines.specs.declared.part.Part.{Part}
use Rattle.trace_lines.specs.Breaches.{at_word}
use Rattle.trace_lines.specs.declared.places.Place.{Place}
use Rattle.trace_lines.specs.declared.places.Place.TheVariants.{Version, Frames, PageFile, Declarations, Requests, Ended}
use Rattle.trace_lines.specs.Grammar.{content}
use Rattle.outside_io.specs.declared.lines.Line.TheVariants.{Text}
use Rattle.outside_io.specs.HandedOut.{IsInLine, HandsOut, Parts}
use Rattle.trace_reader.specs.Changes.{start}
use Rattle.trace_reader.specs.Head.{Faulty, HeadLine, begins_log, goes_on, is_faulty, by_breach, by_trace, head_line, head_of, judge_head, head_at_end, after_line}
use Rattle.trace_reader.specs.Head as head
use Rattle.trace_reader.specs.HeadAnswer.{HasGone}
use Rattle.trace_reader.specs.LogWord.{plain}
use Rattle.trace_reader.specs.Meaning.{lines}
use Rattle.trace_reader.proofs.Judging.{first_line, begun, too_long}
use Rattle.trace_reader.proofs.Splitting.{lines_none, lines_at, some_line, no_lines}

breach_before_end : (breach : Breach) (cause : Cause) (place : Place) (ws : List (List ℕ)) → (place ≡ Ended → ⊥) → by_breach breach cause place ws ≡ is_faulty breach
breach_before_end breach UnknownWord Version ws h = refl
breach_before_end breach UnknownWord Frames ws h = refl
breach_before_end breach UnknownWord PageFile ws h = refl
breach_before_end breach UnknownWord Declarations ws h = refl
breach_before_end breach UnknownWord Requests ws h = refl
breach_before_end breach UnknownWord Ended ws h = absurd (h refl)
breach_before_end breach cause place ws h = refl

-- before END a line is what it is in the trace
pub before_end : (r : Result Part Breach) (place : Place) (ws : List (List ℕ)) → (place ≡ Ended → ⊥) → by_trace r place ws ≡ plain r
before_end (Ok next) place ws h = refl
before_end (Err breach) place ws h = breach_before_end breach breach.cause place ws h

pub gone_first : (text : List ℕ) → HasGone text start 1 text
gone_first text = record { front = []; whole = refl; goes = λ more. refl; onward = lit≤ tt; counted = refl }

moved : (text front rest line back : List ℕ) → text ≡ front ++ rest → rest ≡ line ++ 10 ∷ back → text ≡ (front ++ (line ++ 10 ∷ [])) ++ back
moved text front rest line back whole cut =
    whole ∙ ap (λ (r : List ℕ). front ++ r) (cut ∙ sym (append_assoc line (10 ∷ []) back)) ∙ sym (append_assoc front (line ++ 10 ∷ []) back)

-- a whole line, behind which there is always one more
along : (part : Part) (number : ℕ) (line first : List ℕ) (others : List (List ℕ)) (x : HeadLine) → head_line number part line ≡ x
    → judge_head number part (line ∷ first ∷ others) ≡ after_line x number part (join_with_byte 10 (first ∷ others)) (λ p. judge_head (number + 1) p (first ∷ others))
along part number line first others x e = ap (λ (y : HeadLine). after_line y number part (join_with_byte 10 (first ∷ others)) (λ p. judge_head (number + 1) p (first ∷ others))) e

pub line_goes : (text : List ℕ) (part next : Part) (number : ℕ) (rest line back : List ℕ) → HasGone text part number rest → rest ≡ line ++ 10 ∷ back → IsInLine line
    → head_line number part line ≡ goes_on next → HasGone text next (number + 1) back
line_goes text part next number rest line back h cut other e =
    let one : number + 1 - 1 ≡ (number - 1) + 1 = omega (arith, h.onward) in
    record {
      front = h.front ++ (line ++ 10 ∷ []);
      whole = moved text h.front rest line back h.whole cut;
      goes = λ more.
          let some = first_line line [] more other in
          ap head_of (append_assoc h.front (line ++ 10 ∷ []) more) ∙ h.goes ((line ++ 10 ∷ []) ++ more) ∙ ap (judge_head number part) some.2
          ∙ along part number line some.0 some.1 (goes_on next) e ∙ sym (ap (judge_head (number + 1) next) some.3);
      onward = omega arith;
      counted = ap (λ (n : ℕ). drop n (lines text)) one ∙ sym (drop-drop 1 (number - 1) (lines text)) ∙ ap (λ (ls : List (List ℕ)). drop 1 ls) h.counted
          ∙ ap (λ (r : List ℕ). drop 1 (lines r)) cut ∙ ap (λ (ls : List (List ℕ)). drop 1 ls) (lines_at line back other);
    }

-- the whole text, by the line behind what was taken
at_rest : (text : List ℕ) (part : Part) (number : ℕ) (rest : List ℕ) → HasGone text part number rest → head_of text ≡ judge_head number part (lines rest)
at_rest text part number rest h = ap head_of h.whole ∙ h.goes rest

at_line : (text : List ℕ) (part : Part) (number : ℕ) (rest line back : List ℕ) (x : HeadLine) → HasGone text part number rest → rest ≡ line ++ 10 ∷ back → IsInLine line → head_line number part line ≡ x
    → head_of text ≡ after_line x number part back (λ p. judge_head (number + 1) p (lines back))
at_line text part number rest line back x h cut other e =
    let some = some_line back in
    at_rest text part number rest h ∙ ap (λ (r : List ℕ). judge_head number part (lines r)) cut ∙ ap (judge_head number part) (lines_at line back other)
    ∙ ap (λ (ls : List (List ℕ)). judge_head number part (line ∷ ls)) some.2 ∙ along part number line some.0 some.1 x e
    ∙ ap (λ (ls : List (List ℕ)). after_line x number part (join_with_byte 10 ls) (λ p. judge_head (number + 1) p ls)) (sym some.2)
    ∙ ap (λ (b : List ℕ). after_line x number part b (λ p. judge_head (number + 1) p (lines back))) (join_with_byte-slice_split 10 back)

last_is : (part : Part) (number : ℕ) (line : List ℕ) (x : HeadLine) → line ≢ [] → head_line number part line ≡ x → head_at_end number part line ≡ after_line x number part [] (λ next. head.Unfinished)
last_is part number [] x some e = absurd (some refl)
last_is part number (b ∷ bytes) x some e = ap (λ (y : HeadLine). after_line y number part [] (λ next. head.Unfinished)) e

at_last : (text : List ℕ) (part : Part) (number : ℕ) (rest line : List ℕ) (x : HeadLine) → HasGone text part number rest → rest ≡ line → IsInLine line → line ≢ [] → head_line number part line ≡ x
    → head_of text ≡ after_line x number part [] (λ next. head.Unfinished)
at_last text part number rest line x h cut other some e =
    at_rest text part number rest h ∙ ap (λ (r : List ℕ). judge_head number part (lines r)) cut ∙ ap (judge_head number part) (lines_none line other) ∙ last_is part number line x some e

-- a line that begins the log, or is at fault
pub line_answers : (text : List ℕ) (part : Part) (number : ℕ) (rest line back : List ℕ) (ended : Bool) (x : HeadLine) → HasGone text part number rest → HandsOut (Text ended) line → Parts (Text ended) rest line back
    → head_line number part line ≡ x → ((p : Part) → x ≡ goes_on p → ⊥) → head_of text ≡ after_line x number part back (λ p. head.Unfinished)
line_answers text part number rest line back true begins_log h out cut e never = at_line text part number rest line back begins_log h cut out.0 e
line_answers text part number rest line back true (goes_on p) h out cut e never = absurd (never p refl)
line_answers text part number rest line back true (is_faulty breach) h out cut e never = at_line text part number rest line back (is_faulty breach) h cut out.0 e
line_answers text part number rest line back false x h out cut e never =
    at_last text part number rest line x h cut.0 out.0 out.2 e ∙ ap (λ (b : List ℕ). after_line x number part b (λ p. head.Unfinished)) (sym cut.1)

pub last_goes : (text : List ℕ) (part next : Part) (number : ℕ) (rest line back : List ℕ) → HasGone text part number rest → HandsOut (Text false) line → Parts (Text false) rest line back
    → head_line number part line ≡ goes_on next → head_of text ≡ head.Unfinished
last_goes text part next number rest line back h out cut e = at_last text part number rest line (goes_on next) h cut.0 out.0 out.2 e

pub none_left : (text : List ℕ) (part : Part) (number : ℕ) (rest : List ℕ) → HasGone text part number rest → rest ≡ [] → head_of text ≡ head.Unfinished
none_left text part number rest h e = at_rest text part number rest h ∙ ap (λ (r : List ℕ). judge_head number part (lines r)) e

-- no line was taken, and nothing is left: the text is empty
pub empty_text : (text : List ℕ) (part : Part) (number : ℕ) (rest : List ℕ) → HasGone text part number rest → rest ≡ [] → number ≡ 1 → text ≡ []
empty_text text part number rest h none first =
    let all : lines text ≡ lines [] = sym (ap (λ (n : ℕ). drop (n - 1) (lines text)) first) ∙ h.counted ∙ ap lines none in
    no_lines text all

-- a line of more than 255 bytes
refused : (part : Part) (number : ℕ) (breach : Breach) (line : List ℕ) (others : List (List ℕ)) → 0 < length line → head_line number part line ≡ is_faulty breach → judge_head number part (line ∷ others) ≡ Faulty number breach
refused part number breach [] others some e = absurd (omega (arith, some))
refused part number breach (b ∷ line) [] some e = last_is part number (b ∷ line) (is_faulty breach) (λ none. absurd cc) e
refused part number breach (b ∷ line) (first ∷ others) some e = along part number (b ∷ line) first others (is_faulty breach) e

pub long_line : (text : List ℕ) (part : Part) (number : ℕ) (rest front back : List ℕ) → HasGone text part number rest → rest ≡ front ++ back → IsInLine front → length front ≡ 256 → head_of text ≡ Faulty number (at_word 0 LineTooLong)
long_line text part number rest front back h cut other long =
    let tail = begun front back other in
    let longer : 255 < length (front ++ tail.0) = rw length-append (omega arith) in
    at_rest text part number rest h ∙ ap (λ (r : List ℕ). judge_head number part (lines r)) cut ∙ ap (judge_head number part) tail.2
    ∙ refused part number (at_word 0 LineTooLong) (front ++ tail.0) tail.1 (omega arith)
    (ap (λ (r : Result Part Breach). by_trace r part.place (words (content (front ++ tail.0)))) (too_long part number (front ++ tail.0) longer))

-- the first line of what is left
pub first_of : (rest line back : List ℕ) (ended : Bool) → HandsOut (Text ended) line → Parts (Text ended) rest line back → (others : List (List ℕ)) × (lines rest ≡ line ∷ others)
first_of rest line back true out cut = (lines back, ap lines cut ∙ lines_at line back out.0)
first_of rest line back false out cut = ([], ap lines cut.0 ∙ lines_none line out.0)

by_breach_at_end : (breach : Breach) (cause : Cause) (place : Place) (ws : List (List ℕ)) → by_breach breach cause place ws ≡ begins_log → place ≡ Ended
by_breach_at_end breach UnknownWord Version ws e = absurd cc
by_breach_at_end breach UnknownWord Frames ws e = absurd cc
by_breach_at_end breach UnknownWord PageFile ws e = absurd cc
by_breach_at_end breach UnknownWord Declarations ws e = absurd cc
by_breach_at_end breach UnknownWord Requests ws e = absurd cc
by_breach_at_end breach UnknownWord Ended ws e = refl
by_breach_at_end breach cause place ws e = absurd cc

-- only after END a line begins the log
pub log_at_end : (r : Result Part Breach) (place : Place) (ws : List (List ℕ)) → by_trace r place ws ≡ begins_log → place ≡ Ended
log_at_end (Ok next) place ws e = absurd cc
log_at_end (Err breach) place ws e = by_breach_at_end breach breach.cause place ws e
