-- Items of a list: one that is read, and the first that passes a test, while those before it are passed.
use Rattle.std.proofs.Common.{◌≡◌, ℕ, ◌+◌, ◌<◌, ◌≤◌, Bool, true, false, List, ◌∷◌, Some, None, drop, find, get_or, length, ap, ◌∙◌, sym, subst, add-one, drop-cons}
use Rattle.std.proofs.lemmas.List.{drop_all}
use Rattle.std.proofs.lemmas.Option.{get_or_from_slice_get, slice_get-get_or}
use Rattle.pager_rules.proofs.Basics.{find_cons_no, find_cons_yes}

rest_at : {X : Type 0} (xs : List X) (i : ℕ) (d : X) → i < length xs → drop i xs ≡ get_or xs i d ∷ drop (i + 1) xs
rest_at xs i d within = rw add-one (drop-cons xs i d within)

pub found_here : {X : Type 0} (p : X → Bool) (xs : List X) (i : ℕ) (x : X) → i < length xs → x ≡ get_or xs i x → p x ≡ true → find p (drop i xs) ≡ Some x
found_here p xs i x within is passes = ap (find p) (rest_at xs i x within ∙ ap (λ y. y ∷ drop (i + 1) xs) (sym is)) ∙ find_cons_yes p x (drop (i + 1) xs) passes

pub found_later : {X : Type 0} (p : X → Bool) (xs : List X) (i : ℕ) (x : X) → i < length xs → x ≡ get_or xs i x → p x ≡ false → find p (drop (i + 1) xs) ≡ find p (drop i xs)
found_later p xs i x within is fails = sym (ap (find p) (rest_at xs i x within ∙ ap (λ y. y ∷ drop (i + 1) xs) (sym is)) ∙ find_cons_no p x (drop (i + 1) xs) fails)

pub found_nowhere : {X : Type 0} (p : X → Bool) (xs : List X) (i : ℕ) → length xs ≤ i → find p (drop i xs) ≡ None
found_nowhere p xs i past = ap (find p) (drop_all i xs past)

pub item_read : {X : Type 0} (xs ys : List X) (i : ℕ) (d : X) → xs ≡ ys → i < length xs → get_or xs i d ≡ get_or ys i (get_or xs i d)
item_read {X} xs ys i d are within =
    let x : X = get_or xs i d in
    subst (λ (zs : List X). x ≡ get_or zs i x) are (sym (get_or_from_slice_get xs i x x (slice_get-get_or xs i d within)))
