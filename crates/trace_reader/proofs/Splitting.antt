-- A text as its lines.
use Rattle.std.proofs.Common.{◌≡◌, ◌≢◌, ℕ, ◌≤◌, List, [], ◌∷◌, ◌++◌, length, All, refl, sym, ap, ◌∙◌, arith, ne_eqb, eq-eqb, eqb}
use Rattle.std.proofs.lemmas.List.Splits.{slice_split_none, slice_split_at, length-slice_split, join_with_byte-slice_split}
use Rattle.std.specs.List.{join_with_byte}
use Rattle.trace_reader.specs.Meaning.{lines}

pub lines_none : (text : List ℕ) → All (λ b. b ≢ 10) text → lines text ≡ text ∷ []
lines_none text other = slice_split_none (λ b. eqb b 10) text (λ k d lt. ne_eqb _ _ (other k d lt))

pub lines_at : (front back : List ℕ) → All (λ b. b ≢ 10) front → lines (front ++ 10 ∷ back) ≡ front ∷ lines back
lines_at front back other = slice_split_at (λ b. eqb b 10) front 10 back (λ k d lt. ne_eqb _ _ (other k d lt)) (eq-eqb 10 10 refl)

-- a text whose lines are those of the empty text is that
pub no_lines : (text : List ℕ) → lines text ≡ lines [] → text ≡ []
no_lines text e = sym (join_with_byte-slice_split 10 text) ∙ ap (join_with_byte 10) e ∙ join_with_byte-slice_split 10 []

-- there is always a line
nonempty : {A : Type 0} (xs : List A) → 1 ≤ length xs → (x : A) × (more : List A) × (xs ≡ x ∷ more)
nonempty [] h = absurd (omega arith)
nonempty (x ∷ xs) h = (x, xs, refl)

pub some_line : (text : List ℕ) → (x : List ℕ) × (more : List (List ℕ)) × (lines text ≡ x ∷ more)
some_line text = nonempty (lines text) (omega (arith, length-slice_split (λ b. eqb b 10) text))
