-- A list with one element at hand: what stands before it, and where it is found.
use Rattle.std.proofs.Common.{◌≡◌, ◌≢◌, ℕ, zero, suc, ◌+◌, ◌<◌, ◌≤◌, Bool, true, false, not, cond, ltb, List, [], ◌∷◌, ◌++◌, map, length, get_or, All, AllPairs, Some, None, refl, sym, ap, subst, arith, lt-ltb, length-append}
use Rattle.std.specs.Prelude.{slice_get, position, sum_by, bytes_eq}
use Rattle.std.specs.List.{list_any, position_or_len}
use Rattle.std.proofs.lemmas.Bool.{false_from_ne_true, ltb-true}
use Rattle.std.proofs.lemmas.List.{get_or_append_left, length-map}
use Rattle.std.proofs.lemmas.List.Elements.{All-head, All-tail}
use Rattle.std.proofs.lemmas.List.Folds.{list_any_none}
use Rattle.std.proofs.lemmas.List.Sums.{sum_by-append, sum_by-cons}
use Rattle.std.proofs.lemmas.Slice.Eq.{bytes_eq-Decides}
use Rattle.std.proofs.Math.Seq.{get_or-append_seam}

pub same_bytes : (a : List ℕ) → bytes_eq a a ≡ true
same_bytes a = (bytes_eq-Decides a a).1 refl

pub other_bytes : (a b : List ℕ) → a ≢ b → bytes_eq a b ≡ false
other_bytes a b differ = false_from_ne_true (bytes_eq a b) (λ e. differ ((bytes_eq-Decides a b).0 e))

module _ {X : Type 0} where
  pub member : (P : X → Type 0) (before : List X) (x : X) (after all : List X) → before ++ x ∷ after ≡ all → All P all → P x
  member P before x after all e h =
      let there : length before < length (before ++ x ∷ after) = omega (arith, length-append before (x ∷ after)) in
      let whole : All P (before ++ x ∷ after) = subst (All P) (sym e) h in
      subst P (get_or-append_seam before x after x) (whole (length before) x there)

  pub related : (R : X → X → Type 0) (before : List X) (x : X) (after all : List X) → before ++ x ∷ after ≡ all → AllPairs R all → All (λ y. R y x) before
  related R before x after all e h k d lt =
      let long : length (before ++ x ∷ after) ≡ length before + length (x ∷ after) = length-append before (x ∷ after) in
      let there : length before < length (before ++ x ∷ after) = omega arith in
      let whole : AllPairs R (before ++ x ∷ after) = subst (AllPairs R) (sym e) h in
      let pair = whole k (length before) d lt there in
      subst (λ (y : X). R y x) (get_or_append_left before (x ∷ after) d k lt) (subst (R (get_or (before ++ x ∷ after) k d)) (get_or-append_seam before x after d) pair)

  -- no element before this one passes
  pub none_before : (R : X → X → Type 0) (p : X → Bool) (before : List X) (x : X) (after all : List X) → before ++ x ∷ after ≡ all → AllPairs R all
      → ((y : X) → R y x → p y ≡ false) → list_any p before ≡ false
  none_before R p before x after all e h f = list_any_none p before (λ k d lt. f (get_or before k d) (related R before x after all e h k d lt))

  pub count_before : (before : List X) (x : X) (after all : List X) → before ++ x ∷ after ≡ all → length before + 1 ≤ length all
  count_before before x after all e = omega (arith, length-append before (x ∷ after), ap (length {A = X}) e)

  pub sum_before : (f : X → ℕ) (before : List X) (x : X) (after all : List X) → before ++ x ∷ after ≡ all → sum_by f before + f x ≤ sum_by f all
  sum_before f before x after all e = omega (arith, sum_by-append f before (x ∷ after), sum_by-cons f x after, ap (sum_by f) e)

  -- the element at an index, and those before and after it
  pub parted : (xs : List X) (i : ℕ) (x : X) → slice_get xs i ≡ Some x → (before : List X) × (after : List X) × (before ++ x ∷ after ≡ xs) × (length before ≡ i)
  parted [] i x e = absurd cc
  parted (y ∷ xs) zero x e = let same : y ≡ x = cc in ([], xs, ap (λ (z : X). z ∷ xs) (sym same), refl)
  parted (y ∷ xs) (suc i) x e = let rest = parted xs i x e in (y ∷ rest.0, rest.1, ap (λ (zs : List X). y ∷ zs) rest.2, ap suc rest.3)

  -- the first that passes

  first_at : (p : X → Bool) (before : List X) (x : X) (after : List X) → All (λ y. p y ≡ false) before → p x ≡ true → position_or_len p (before ++ x ∷ after) ≡ length before
  first_at p [] x after h e = rw e refl
  first_at p (y ∷ before) x after h e =
      let rest = first_at p before x after (All-tail (λ y. p y ≡ false) y before h) e in
      let here : position_or_len p ((y ∷ before) ++ x ∷ after) ≡ 1 + position_or_len p (before ++ x ∷ after) = rw (All-head (λ y. p y ≡ false) y before h) refl in
      omega (arith, here, rest)

  pub position_at : (p : X → Bool) (before : List X) (x : X) (after : List X) → All (λ y. p y ≡ false) before → p x ≡ true → position p (before ++ x ∷ after) ≡ Some (length before)
  position_at p before x after h e =
      let at = first_at p before x after h e in
      let there : length before < length (before ++ x ∷ after) = omega (arith, length-append before (x ∷ after)) in
      rw (at, lt-ltb (length before) (length (before ++ x ∷ after)) there) refl

  no_first : (p : X → Bool) (xs : List X) → All (λ y. p y ≡ false) xs → position_or_len p xs ≡ length xs
  no_first p [] h = refl
  no_first p (y ∷ xs) h =
      let rest = no_first p xs (All-tail (λ y. p y ≡ false) y xs h) in
      let here : position_or_len p (y ∷ xs) ≡ 1 + position_or_len p xs = rw (All-head (λ y. p y ≡ false) y xs h) refl in
      omega (arith, here, rest)

  pub position_none : (p : X → Bool) (xs : List X) → All (λ y. p y ≡ false) xs → position p xs ≡ None
  position_none p xs h = rw (no_first p xs h, not_below (length xs)) refl where
    not_below : (n : ℕ) → ltb n n ≡ false
    not_below n = false_from_ne_true (ltb n n) (λ e. omega (arith, ltb-true n n e))

-- a test of a part, over the parts

module _ {X Y : Type 0} (f : X → Y) (p : Y → Bool) where
  first_map : (xs : List X) → position_or_len (λ x. p (f x)) xs ≡ position_or_len p (map f xs)
  first_map [] = refl
  first_map (x ∷ xs) = ap (λ (n : ℕ). cond (not (p (f x))) (1 + n) 0) (first_map xs)

  pub position_map : (xs : List X) → position (λ x. p (f x)) xs ≡ position p (map f xs)
  position_map xs = rw (first_map xs, sym (length-map xs f)) refl
