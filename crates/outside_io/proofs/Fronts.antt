-- The first bytes of a line that was handed out.
use Rattle.std.proofs.Common.{◌≡◌, ◌≢◌, ℕ, ◌+◌, ◌-◌, ◌≤◌, true, false, eqb, List, [], ◌∷◌, ◌++◌, length, take, drop, get_or, refl, sym, ap, ◌∙◌, arith, ne_eqb, eq-eqb}
use Rattle.std.specs.List.{AllByRecursion}
use Rattle.std.proofs.lemmas.List.{drop-drop, get_or-drop, take-append-le}
use Rattle.std.proofs.lemmas.List.Elements.{recursion_from_All}
use Rattle.std.proofs.lemmas.List.Splits.{slice_split_none, slice_split_at, length-slice_split}
use Rattle.outside_io.specs.declared.lines.Line.{Line}
use Rattle.outside_io.specs.declared.lines.Line.TheVariants.{Text, Long, End}
use Rattle.outside_io.specs.HandedOut.{HandsOut, IsInLine, Parts}
use Rattle.outside_io.specs.LineText.{line_text, lines_of}

only_line : (text : List ℕ) → IsInLine text → lines_of text ≡ text ∷ []
only_line text other = slice_split_none (λ b. eqb b 10) text (λ k d lt. ne_eqb _ _ (other k d lt))

-- a line and what is behind it
pub line_first : (line back : List ℕ) → IsInLine line → lines_of (line ++ 10 ∷ back) ≡ line ∷ lines_of back
line_first line back other = slice_split_at (λ b. eqb b 10) line 10 back (λ k d lt. ne_eqb _ _ (other k d lt)) (eq-eqb 10 10 refl)

-- there is always a line
nonempty : {A : Type 0} (xs : List A) → 1 ≤ length xs → (x : A) × (more : List A) × (xs ≡ x ∷ more)
nonempty [] h = absurd (omega arith)
nonempty (x ∷ xs) h = (x, xs, refl)

some_line : (text : List ℕ) → (x : List ℕ) × (more : List (List ℕ)) × (lines_of text ≡ x ∷ more)
some_line text = nonempty (lines_of text) (omega (arith, length-slice_split (λ b. eqb b 10) text))

-- what a front without byte 10 is the beginning of
begun_by : (front more : List ℕ) → AllByRecursion (λ b. b ≢ 10) front → (rest : List ℕ) × (others : List (List ℕ)) × (lines_of (front ++ more) ≡ (front ++ rest) ∷ others)
begun_by [] more other = some_line more
begun_by (b ∷ front) more other =
    let tail = begun_by front more other.1 in
    let no_end : eqb b 10 ≡ false = ne_eqb b 10 other.0 in
    (tail.0, tail.1, rw (no_end, tail.2) refl)

-- what was handed out begins the first line
pub first_front : (line : Line) (text out rest : List ℕ) → HandsOut line out → Parts line text out rest → take 80 out ≡ take 80 (get_or (lines_of text) 0 [])
first_front (Text true) text out rest gives parts =
    ap (λ (ls : List (List ℕ)). take 80 (get_or ls 0 [])) (sym (ap lines_of parts ∙ line_first out rest gives.0))
first_front (Text false) text out rest gives parts =
    ap (λ (ls : List (List ℕ)). take 80 (get_or ls 0 [])) (sym (ap lines_of parts.0 ∙ only_line out gives.0))
first_front Long text out rest gives parts =
    let tail = begun_by out rest (recursion_from_All (λ b. b ≢ 10) out gives.0) in
    sym (take-append-le 80 out tail.0 (omega (arith, gives.1)))
    ∙ ap (λ (ls : List (List ℕ)). take 80 (get_or ls 0 [])) (sym (ap lines_of parts ∙ tail.2))
first_front End text out rest gives parts =
    ap (λ (xs : List ℕ). take 80 xs) gives ∙ ap (λ (t : List ℕ). take 80 (get_or (lines_of t) 0 [])) (sym parts.0)

-- the first line behind so many others
pub line_behind : (text rest : List ℕ) (count : ℕ) → drop count (lines_of text) ≡ lines_of rest → take 80 (get_or (lines_of rest) 0 []) ≡ line_text (count + 1) text
line_behind text rest count stands =
    let index : count + 0 ≡ count + 1 - 1 = omega arith in
    ap (λ (xs : List ℕ). take 80 xs)
    (ap (λ (ls : List (List ℕ)). get_or ls 0 []) (sym stands) ∙ get_or-drop count (lines_of text) 0 [] ∙ ap (λ (k : ℕ). get_or (lines_of text) k []) index)

-- one line more
pub one_more : (text rest line back : List ℕ) (count : ℕ) → drop count (lines_of text) ≡ lines_of rest → rest ≡ line ++ 10 ∷ back → IsInLine line → drop (count + 1) (lines_of text) ≡ lines_of back
one_more text rest line back count stands cut other =
    sym (drop-drop 1 count (lines_of text)) ∙ ap (λ (ls : List (List ℕ)). drop 1 ls) (stands ∙ ap lines_of cut ∙ line_first line back other)
