-- Elements by their place, in a list that has one more at its end.
use Rattle.std.proofs.Common.{◌≡◌, ℕ, zero, suc, ◌⊎◌, List, [], ◌∷◌, ◌++◌, length, slice_get, Some, refl, sym, ap, ◌∙◌, subst, inl, inr, ⊎_elim}

at_push : {A : Type 0} (xs : List A) (x y : A) (i : ℕ) → slice_get (xs ++ x ∷ []) i ≡ Some y → (slice_get xs i ≡ Some y) ⊎ ((i ≡ length xs) × (x ≡ y))
at_push [] x y zero e = inr (refl, cc)
at_push [] x y (suc i) e = absurd (cc)
at_push (z ∷ xs) x y zero e = inl e
at_push (z ∷ xs) x y (suc i) e = ⊎_elim (λ h. inl h) (λ (h : (i ≡ length xs) × (x ≡ y)). inr (ap suc h.0, h.1)) (at_push xs x y i e)

-- what holds of each element and of one more holds of each
pub pushed : {A : Type 0} (P : ℕ → A → Type 0) (xs ys : List A) (x : A) → ys ≡ xs ++ x ∷ [] → ((i : ℕ) (y : A) → slice_get xs i ≡ Some y → P i y) → P (length xs) x → (i : ℕ) (y : A) → slice_get ys i ≡ Some y → P i y
pushed P xs ys x e old new i y at = ⊎_elim (old i y) (λ (h : (i ≡ length xs) × (x ≡ y)). subst (λ (p : ℕ × _). P p.0 p.1) (λ j. (sym h.0 j, h.1 j)) new) (at_push xs x y i (ap (λ l. slice_get l i) (sym e) ∙ at))

at_longer : {A : Type 0} (xs : List A) (x y : A) (i : ℕ) → slice_get xs i ≡ Some y → slice_get (xs ++ x ∷ []) i ≡ Some y
at_longer [] x y i e = absurd (cc)
at_longer (z ∷ xs) x y zero e = e
at_longer (z ∷ xs) x y (suc i) e = at_longer xs x y i e

at_last : {A : Type 0} (xs : List A) (x : A) → slice_get (xs ++ x ∷ []) (length xs) ≡ Some x
at_last [] x = refl
at_last (z ∷ xs) x = at_last xs x

-- what stands in the shorter list stands in the longer, at the same place
pub still_there : {A : Type 0} (xs ys : List A) (x y : A) (i : ℕ) → ys ≡ xs ++ x ∷ [] → slice_get xs i ≡ Some y → slice_get ys i ≡ Some y
still_there xs ys x y i e at = ap (λ l. slice_get l i) e ∙ at_longer xs x y i at

pub last_there : {A : Type 0} (xs ys : List A) (x : A) → ys ≡ xs ++ x ∷ [] → slice_get ys (length xs) ≡ Some x
last_there xs ys x e = ap (λ l. slice_get l (length xs)) e ∙ at_last xs x
