-- The words of a text that was cut at its first blank.
use Rattle.std.proofs.Common.{◌≡◌, ℕ, ◌+◌, List, [], ◌∷◌, ◌++◌, length, All, refl, ap, arith, ne_eqb, eq-eqb, eqb, count_by}
use Rattle.std.proofs.lemmas.List.Splits.{slice_split_none, slice_split_at, length-slice_split}
use Rattle.vm_text.specs.Spaced.{words, IsOther}

pub words_none : (text : List ℕ) → All (IsOther 32) text → words text ≡ text ∷ []
words_none text other = slice_split_none (λ b. eqb b 32) text (λ k d lt. ne_eqb _ _ (other k d lt))

pub words_at : (front back : List ℕ) → All (IsOther 32) front → words (front ++ 32 ∷ back) ≡ front ∷ words back
words_at front back other = slice_split_at (λ b. eqb b 32) front 32 back (λ k d lt. ne_eqb _ _ (other k d lt)) (eq-eqb 32 32 refl)

-- there is always a word
pub some_word : (text : List ℕ) → words text ≡ [] → ⊥
some_word text none = let long : length (words text) ≡ count_by (λ b. eqb b 32) text + 1 = length-slice_split (λ b. eqb b 32) text in absurd (omega (arith, ap (length {A = List ℕ}) none))
