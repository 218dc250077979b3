-- How a text in pieces is judged.
use Rattle.std.proofs.Common.{◌≡◌, ◌≢◌, ℕ, ◌+◌, ◌-◌, ◌<◌, ◌≤◌, true, false, eqb, List, [], ◌∷◌, ◌++◌, length, drop, All, Ok, Err, refl, sym, ap, ◌∙◌, append_assoc, arith, ne_eqb}
use Rattle.std.proofs.lemmas.Bool.{lt-leb, le-leb}
use Rattle.std.proofs.lemmas.List.{drop-drop, length-append}
use Rattle.std.proofs.lemmas.List.Elements.{recursion_from_All}
use Rattle.std.specs.List.{AllByRecursion}
use Rattle.trace_words.specs.declared.cause.Cause.TheVariants.{LineTooLong}
use Rattle.trace_lines.specs.declared.breach.Breach.{Breach}
use Rattle.trace_lines.specs.declared.part.Part.{Part}
use Rattle.trace_lines.specs.Breaches.{at_word}
use Rattle.trace_reader.specs.Meaning.{Faulty, next_line, judge, is_open, lines}
use Rattle.trace_reader.specs.Stream.{Follows}
use Rattle.trace_reader.proofs.Splitting.{lines_none, lines_at, some_line}

-- one line

judge_one : (part next : Part) (number : ℕ) (line first : List ℕ) (more : List (List ℕ)) → next_line number part line ≡ Ok next → judge number part (line ∷ first ∷ more) ≡ judge (number + 1) next (first ∷ more)
judge_one part next number line first more e = rw e refl

open_one : (part next : Part) (number : ℕ) (line first : List ℕ) (more : List (List ℕ)) → next_line number part line ≡ Ok next → is_open number part (line ∷ first ∷ more) ≡ is_open (number + 1) next (first ∷ more)
open_one part next number line first more e = rw e refl

fault_one : (part : Part) (number : ℕ) (breach : Breach) (line first : List ℕ) (more : List (List ℕ)) → next_line number part line ≡ Err breach → judge number part (line ∷ first ∷ more) ≡ Faulty number breach
fault_one part number breach line first more e = rw e refl

shut_one : (part : Part) (number : ℕ) (breach : Breach) (line first : List ℕ) (more : List (List ℕ)) → next_line number part line ≡ Err breach → is_open number part (line ∷ first ∷ more) ≡ false
shut_one part number breach line first more e = rw e refl

-- the lines of a text whose front has no byte 10, whatever comes next
rejoin : (line back more : List ℕ) → (line ++ 10 ∷ back) ++ more ≡ line ++ 10 ∷ (back ++ more)
rejoin line back more = append_assoc line (10 ∷ back) more

pub first_line : (line back more : List ℕ) → All (λ b. b ≢ 10) line → (first : List ℕ) × (others : List (List ℕ)) × (lines ((line ++ 10 ∷ back) ++ more) ≡ line ∷ first ∷ others) × (lines (back ++ more) ≡ first ∷ others)
first_line line back more other =
    let some = some_line (back ++ more) in
    (some.0, some.1, ap lines (rejoin line back more) ∙ lines_at line (back ++ more) other ∙ ap (λ (ps : List (List ℕ)). line ∷ ps) some.2, some.2)

pub follows_line : (part next : Part) (number : ℕ) (line back : List ℕ) → All (λ b. b ≢ 10) line → next_line number part line ≡ Ok next → Follows part number (line ++ 10 ∷ back) next (number + 1) back
follows_line part next number line back other e = record {
  judged = λ more.
      let some = first_line line back more other in
      ap (judge number part) some.2 ∙ judge_one part next number line some.0 some.1 e ∙ sym (ap (judge (number + 1) next) some.3);
  opened = λ more.
      let some = first_line line back more other in
      ap (is_open number part) some.2 ∙ open_one part next number line some.0 some.1 e ∙ sym (ap (is_open (number + 1) next) some.3);
  onward = omega arith;
  counted = λ more.
      let some = first_line line back more other in
      let one : number + 1 - number ≡ 1 = omega arith in
      ap (λ (n : ℕ). drop n (lines ((line ++ 10 ∷ back) ++ more))) one ∙ ap (λ (ls : List (List ℕ)). drop 1 ls) some.2 ∙ sym some.3;
}

pub fault_line : (part : Part) (number : ℕ) (breach : Breach) (line back more : List ℕ) → All (λ b. b ≢ 10) line → next_line number part line ≡ Err breach → judge number part (lines ((line ++ 10 ∷ back) ++ more)) ≡ Faulty number breach
fault_line part number breach line back more other e =
    let some = first_line line back more other in
    ap (judge number part) some.2 ∙ fault_one part number breach line some.0 some.1 e

pub shut_line : (part : Part) (number : ℕ) (breach : Breach) (line back more : List ℕ) → All (λ b. b ≢ 10) line → next_line number part line ≡ Err breach → is_open number part (lines ((line ++ 10 ∷ back) ++ more)) ≡ false
shut_line part number breach line back more other e =
    let some = first_line line back more other in
    ap (is_open number part) some.2 ∙ shut_one part number breach line some.0 some.1 e

pub follows_same : (part : Part) (number : ℕ) (text : List ℕ) → Follows part number text part number text
follows_same part number text =
    let none : number - number ≡ 0 = omega arith in
    record { judged = λ more. refl; opened = λ more. refl; onward = omega arith; counted = λ more. ap (λ (n : ℕ). drop n (lines (text ++ more))) none }

pub follows_then : (a b c : Part) (i j k : ℕ) (x y z : List ℕ) → Follows a i x b j y → Follows b j y c k z → Follows a i x c k z
follows_then a b c i j k x y z p q =
    let sum : k - i ≡ (j - i) + (k - j) = omega (arith, p.onward, q.onward) in
    record {
      judged = λ more. p.judged more ∙ q.judged more;
      opened = λ more. p.opened more ∙ q.opened more;
      onward = omega (arith, p.onward, q.onward);
      counted = λ more.
          ap (λ (n : ℕ). drop n (lines (x ++ more))) sum ∙ sym (drop-drop (k - j) (j - i) (lines (x ++ more)))
          ∙ ap (λ (ls : List (List ℕ)). drop (k - j) ls) (p.counted more) ∙ q.counted more;
    }

-- more bytes come
pub follows_more : (a b : Part) (i j : ℕ) (x y bytes : List ℕ) → Follows a i x b j y → Follows a i (x ++ bytes) b j (y ++ bytes)
follows_more a b i j x y bytes p = record {
  judged = λ more. ap (λ (t : List ℕ). judge i a (lines t)) (append_assoc x bytes more) ∙ p.judged (bytes ++ more) ∙ ap (λ (t : List ℕ). judge j b (lines t)) (sym (append_assoc y bytes more));
  opened = λ more. ap (λ (t : List ℕ). is_open i a (lines t)) (append_assoc x bytes more) ∙ p.opened (bytes ++ more) ∙ ap (λ (t : List ℕ). is_open j b (lines t)) (sym (append_assoc y bytes more));
  onward = p.onward;
  counted = λ more. ap (λ (t : List ℕ). drop (j - i) (lines t)) (append_assoc x bytes more) ∙ p.counted (bytes ++ more) ∙ ap lines (sym (append_assoc y bytes more));
}

-- a line that has begun

-- what the front without byte 10 is the beginning of
begun_by : (front more : List ℕ) → AllByRecursion (λ b. b ≢ 10) front → (rest : List ℕ) × (others : List (List ℕ)) × (lines (front ++ more) ≡ (front ++ rest) ∷ others)
begun_by [] more other = some_line more
begun_by (b ∷ front) more other =
    let tail = begun_by front more other.1 in
    let no_end : eqb b 10 ≡ false = ne_eqb b 10 other.0 in
    (tail.0, tail.1, rw (no_end, tail.2) refl)

pub begun : (front more : List ℕ) → All (λ b. b ≢ 10) front → (rest : List ℕ) × (others : List (List ℕ)) × (lines (front ++ more) ≡ (front ++ rest) ∷ others)
begun front more other = begun_by front more (recursion_from_All (λ b. b ≢ 10) front other)

pub too_long : (part : Part) (number : ℕ) (line : List ℕ) → 255 < length line → next_line number part line ≡ Err (at_word 0 LineTooLong)
too_long part number line h = rw (lt-leb (length line) 255 h) refl

pub refused : (part : Part) (number : ℕ) (breach : Breach) (line : List ℕ) (others : List (List ℕ)) → 0 < length line → next_line number part line ≡ Err breach → judge number part (line ∷ others) ≡ Faulty number breach
refused part number breach [] others some e = absurd (omega (arith, some))
refused part number breach (b ∷ line) [] some e = rw e refl
refused part number breach (b ∷ line) (first ∷ more) some e = fault_one part number breach (b ∷ line) first more e

pub fault_long : (part : Part) (number : ℕ) (front more : List ℕ) → All (λ b. b ≢ 10) front → 255 < length front → judge number part (lines (front ++ more)) ≡ Faulty number (at_word 0 LineTooLong)
fault_long part number front more other long =
    let tail = begun front more other in
    let longer : 255 < length (front ++ tail.0) = rw length-append (omega arith) in
    ap (judge number part) tail.2 ∙ refused part number (at_word 0 LineTooLong) (front ++ tail.0) tail.1 (omega arith) (too_long part number (front ++ tail.0) longer)

-- a begun line of so many bytes isn't open
pub shut_long : (part : Part) (number : ℕ) (line : List ℕ) (others : List (List ℕ)) → 255 < length line → is_open number part (line ∷ others) ≡ false
shut_long part number line [] long = lt-leb (length line) 255 long
shut_long part number line (first ∷ more) long = shut_one part number (at_word 0 LineTooLong) line first more (too_long part number line long)

-- the last line of a text
pub last_line : (part : Part) (number : ℕ) (line : List ℕ) → All (λ b. b ≢ 10) line → length line ≤ 255 → is_open number part (lines line) ≡ true
last_line part number line other few = ap (is_open number part) (lines_none line other) ∙ le-leb (length line) 255 few
