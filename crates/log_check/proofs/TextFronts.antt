-- A text that begins with a line, and what is left of a text.
use Rattle.std.proofs.Common.{◌≡◌, ◌≢◌, ◌↔◌, IsTrue, ℕ, ◌<◌, ◌≤◌, List, [], ◌∷◌, ◌++◌, take, drop, length, length-drop, nat_eq, slice_index_or, sym, ap, ◌∙◌, append_assoc, arith}
use Rattle.std.proofs.lemmas.Bool.{eq-eqb, eqb-true}
use Rattle.std.proofs.lemmas.List.{drop_all, take-append-drop}
use Rattle.std.proofs.Math.Seq.{drop-append_seam, take-append_seam}
use Rattle.log_check.specs.Texts.{Begins}

headed : (back : List ℕ) → 0 < length back → slice_index_or back 0 0 ≡ 10 → (left : List ℕ) × (back ≡ 10 ∷ left)
headed [] some is = absurd (omega (arith, some))
headed (b ∷ left) some is = (left, ap (λ (x : ℕ). x ∷ left) is)

-- the front is the line: the byte behind it tells
pub line_begins : (text line front back : List ℕ) → front ≡ take (length line) text → back ≡ drop (length line) text → length line < length text → front ≡ line
    → IsTrue (nat_eq (slice_index_or back 0 0) 10) ↔ Begins text line
line_begins text line front back front_is back_is less same = (to, from)
  where
    whole : text ≡ line ++ back
    whole = sym (take-append-drop (length line) text) ∙ (ap (λ (xs : List ℕ). xs ++ drop (length line) text) (sym front_is ∙ same) ∙ ap (λ (xs : List ℕ). line ++ xs) (sym back_is))

    to : IsTrue (nat_eq (slice_index_or back 0 0) 10) → Begins text line
    to is =
        let long = ap length back_is ∙ length-drop (length line) text in
        let found = headed back (omega (arith, long, less)) (eqb-true (slice_index_or back 0 0) 10 is) in
        (found.0, whole ∙ (ap (λ (xs : List ℕ). line ++ xs) found.1 ∙ sym (append_assoc line (10 ∷ []) found.0)))

    from : Begins text line → IsTrue (nat_eq (slice_index_or back 0 0) 10)
    from begins =
        let left : List ℕ = begins.0 in
        let behind : back ≡ 10 ∷ left = back_is ∙ (ap (drop (length line)) (begins.1 ∙ append_assoc line (10 ∷ []) left) ∙ drop-append_seam line (10 ∷ left)) in
        eq-eqb (slice_index_or back 0 0) 10 (ap (λ (xs : List ℕ). slice_index_or xs 0 0) behind)

-- the front is another line
pub other_begins : (text line front : List ℕ) → front ≡ take (length line) text → front ≢ line → Begins text line → ⊥
other_begins text line front front_is other begins =
    let left : List ℕ = begins.0 in
    other (front_is ∙ (ap (take (length line)) (begins.1 ∙ append_assoc line (10 ∷ []) left) ∙ take-append_seam line (10 ∷ left)))

-- nothing is left where the next byte would be the text's end
pub none_left : (next long : ℕ) (text left : List ℕ) → left ≡ drop next text → next ≤ length text → long ≡ length text → IsTrue (nat_eq next long) ↔ (left ≡ [])
none_left next long text left left_is inside long_is = (
  λ is. let ended = eqb-true next long is in left_is ∙ drop_all next text (omega (arith, ended, long_is)),
  λ none.
      let all = ap length (sym left_is ∙ none) in
      let rest = length-drop next text in
      eq-eqb next long (omega (arith, all, rest, inside, long_is)),
)
