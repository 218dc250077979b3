-- A word of six letters, by its letters.
use Rattle.std.proofs.Common.{◌≡◌, ℕ, List, [], ◌∷◌, length, refl, arith, sym}
use Rattle.std.specs.List.{slice_index_or}

pub six : (w : List ℕ) (a b c d e f : ℕ) → length w ≡ 6 → slice_index_or w 0 0 ≡ a → slice_index_or w 1 0 ≡ b → slice_index_or w 2 0 ≡ c → slice_index_or w 3 0 ≡ d → slice_index_or w 4 0 ≡ e → slice_index_or w 5 0 ≡ f → a ∷ b ∷ c ∷ d ∷ e ∷ f ∷ [] ≡ w
six [] a b c d e f len h0 h1 h2 h3 h4 h5 = absurd (omega (arith, len))
six (x0 ∷ []) a b c d e f len h0 h1 h2 h3 h4 h5 = absurd (omega (arith, len))
six (x0 ∷ x1 ∷ []) a b c d e f len h0 h1 h2 h3 h4 h5 = absurd (omega (arith, len))
six (x0 ∷ x1 ∷ x2 ∷ []) a b c d e f len h0 h1 h2 h3 h4 h5 = absurd (omega (arith, len))
six (x0 ∷ x1 ∷ x2 ∷ x3 ∷ []) a b c d e f len h0 h1 h2 h3 h4 h5 = absurd (omega (arith, len))
six (x0 ∷ x1 ∷ x2 ∷ x3 ∷ x4 ∷ []) a b c d e f len h0 h1 h2 h3 h4 h5 = absurd (omega (arith, len))
six (x0 ∷ x1 ∷ x2 ∷ x3 ∷ x4 ∷ x5 ∷ []) a b c d e f len h0 h1 h2 h3 h4 h5 = rw (sym h0) (rw (sym h1) (rw (sym h2) (rw (sym h3) (rw (sym h4) (rw (sym h5) refl)))))
six (x0 ∷ x1 ∷ x2 ∷ x3 ∷ x4 ∷ x5 ∷ x6 ∷ rest) a b c d e f len h0 h1 h2 h3 h4 h5 = absurd (omega (arith, len))
