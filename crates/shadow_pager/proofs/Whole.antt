-- What is read off whole tables.
use Rattle.std.proofs.Common.{◌≡◌, ℕ, ◌&&◌, zero, suc, Bool, true, false, cond, List, [], ◌∷◌, Some, count_by, filter, slice_get, refl, ap, arith}
use Rattle.std.proofs.lemmas.Option.{none-some, same_Some}
use Rattle.pager_model.specs.Lookups.{IsHead}
use Rattle.pager_rules.proofs.Basics.{count_cons}
use Rattle.shadow_pager.specs.Shown.{at_or}

-- an item that is there is read
pub read_there : {X : Type 0} (d : X) (xs : List X) (n : ℕ) (x : X) → slice_get xs n ≡ Some x → at_or d xs n ≡ x
read_there d [] zero x is = absurd (none-some x is)
read_there d [] (suc n) x is = absurd (none-some x is)
read_there d (y ∷ xs) zero x is = same_Some y x is
read_there d (y ∷ xs) (suc n) x is = read_there d xs n x is

-- what is read, and isn't the other value, is there
pub there_read : {X : Type 0} (d : X) (xs : List X) (n : ℕ) (x : X) → at_or d xs n ≡ x → (d ≡ x → ⊥) → slice_get xs n ≡ Some x
there_read d [] zero x is other = absurd (other is)
there_read d [] (suc n) x is other = absurd (other is)
there_read d (y ∷ xs) zero x is other = ap Some is
there_read d (y ∷ xs) (suc n) x is other = there_read d xs n x is other

-- the head of a list
pub head_is : (xs : List ℕ) (f : ℕ) → slice_get xs 0 ≡ Some f → IsHead xs f
head_is [] f is = absurd (none-some f is)
head_is (x ∷ xs) f is = record { rest = xs; heads = ap (λ (y : ℕ). y ∷ xs) (same_Some x f is) }

pub is_head : (xs : List ℕ) (f : ℕ) → IsHead xs f → slice_get xs 0 ≡ Some f
is_head xs f h = ap (λ (ys : List ℕ). slice_get ys 0) h.heads

-- counted among those that pass another test
pub count_passing : {X : Type 0} (p q : X → Bool) (xs : List X) → count_by q (filter p xs) ≡ count_by (λ (x : X). p x && q x) xs
count_passing p q [] = refl
count_passing {X} p q (x ∷ xs) = go (p x) refl (count_passing p q xs)
  where
    rest : List X
    rest = filter p xs

    go : (b : Bool) → p x ≡ b → count_by q rest ≡ count_by (λ (y : X). p y && q y) xs → count_by q (cond b (x ∷ rest) rest) ≡ count_by (λ (y : X). p y && q y) (x ∷ xs)
    go true is same =
        let more = count_cons q x rest in
        let whole = count_cons (λ (y : X). p y && q y) x xs in
        let here = ap (λ (c : Bool). cond {A = ℕ} (c && q x) 1 0) is in
        omega (arith, more, whole, here, same)
    go false is same =
        let whole = count_cons (λ (y : X). p y && q y) x xs in
        let here = ap (λ (c : Bool). cond {A = ℕ} (c && q x) 1 0) is in
        omega (arith, whole, here, same)
