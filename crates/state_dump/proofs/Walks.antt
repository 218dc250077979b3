-- Lists that are gone through from the front: a page list by its links, and numbers that pass a test.
use Rattle.std.proofs.Common.{◌≡◌, ℕ, zero, suc, ◌+◌, ◌<◌, ◌≤◌, Bool, true, false, cond, List, [], ◌∷◌, ◌++◌, Option, Some, None, filter, get_or, length, map, slice_get, take, take_all, zero-add, refl, sym, ap, ◌∙◌, arith}
use Rattle.std.specs.List.{AllByRecursion, range_with_len}
use Rattle.std.specs.Option.{option_map}
use Rattle.std.proofs.lemmas.List.{take_more}
use Rattle.std.proofs.lemmas.List.FromFn.{map-range_with_len_more}
use Rattle.std.proofs.lemmas.Option.{none-some, same_Some}
use Rattle.vm_types.specs.declared.names.Pfn.{Pfn}
use Rattle.page_lists.specs.declared.list_name.ListName.{ListName}
use Rattle.state_pages.specs.Shown.{frame_number}
use Rattle.pager_model.specs.Pager.{Pager}
use Rattle.vm_state.specs.ProcessReadings.{IsAfter}
use Rattle.vm_state.specs.Readings.{listed}

-- one item further
pub next_place : (n : ℕ) → n + 1 ≡ suc n
next_place n = omega arith

take_next : {X : Type 0} (xs : List X) (n : ℕ) (x : X) → slice_get xs n ≡ Some x → take (suc n) xs ≡ take n xs ++ x ∷ []
take_next [] n x is = absurd (none-some x is)
take_next (y ∷ xs) zero x is = ap (λ z. z ∷ []) (same_Some y x is)
take_next (y ∷ xs) (suc n) x is = ap (λ zs. y ∷ zs) (take_next xs n x is)

pub take_one : {X : Type 0} (xs : List X) (n : ℕ) (x : X) → slice_get xs n ≡ Some x → take (n + 1) xs ≡ take n xs ++ x ∷ []
take_one xs n x is = ap (λ (k : ℕ). take k xs) (next_place n) ∙ take_next xs n x is

nothing_there : {X : Type 0} (xs : List X) (n : ℕ) → slice_get xs n ≡ None → length xs ≤ n
nothing_there [] n is = omega arith
nothing_there (x ∷ xs) zero is = absurd (none-some x (sym is))
nothing_there (x ∷ xs) (suc n) is = let rest = nothing_there xs n is in omega (arith, rest)

-- ---- the walk stands at this place of a list, and the frames before it were taken
pub record IsTaken (xs : List ℕ) (n : ℕ) (items : List ℕ) (at : Option Pfn) : Type 0 where
  pub here : option_map frame_number at ≡ slice_get xs n
  pub taken : items ≡ take n xs

pub from_head : (xs items : List ℕ) (at : Option Pfn) → items ≡ [] → option_map frame_number at ≡ slice_get xs 0 → IsTaken xs 0 items at
from_head xs items at none is = record { here = is; taken = none }

pub one_further : (a : Pager) (name : ListName) (n : ℕ) (items more : List ℕ) (at next : Option Pfn) (f : Pfn) → IsTaken (listed a name) n items at → at ≡ Some f → more ≡ items ++ f.0 ∷ []
    → IsAfter a f.0 (option_map frame_number next) → IsTaken (listed a name) (n + 1) more next
one_further a name n items more at next f walk is pushed after =
    let there : slice_get (listed a name) n ≡ Some f.0 = sym walk.here ∙ ap (option_map frame_number) is in
    record {
      here = after.after name n there;
      taken = pushed ∙ (ap (λ (xs : List ℕ). xs ++ f.0 ∷ []) walk.taken ∙ sym (take_one (listed a name) n f.0 there));
    }

pub none_left : (xs items : List ℕ) (n : ℕ) (at : Option Pfn) → IsTaken xs n items at → at ≡ None → items ≡ xs
none_left xs items n at walk is = walk.taken ∙ take_all n xs (nothing_there xs n (sym walk.here ∙ ap (option_map frame_number) is))

pub all_taken : (xs items : List ℕ) (n : ℕ) (at : Option Pfn) → IsTaken xs n items at → length xs ≤ n → items ≡ xs
all_taken xs items n at walk past = walk.taken ∙ take_all n xs past

-- ---- numbers that pass a test, and one more
passed_next : (t : ℕ → Bool) (s n : ℕ) → filter t (range_with_len s (suc n)) ≡ filter t (range_with_len s n) ++ cond (t (s + n)) ((s + n) ∷ []) []
passed_next t s zero = ap (λ (m : ℕ). cond (t m) (m ∷ []) []) (let same : s ≡ s + 0 = omega arith in same)
passed_next t s (suc n) =
    ap (λ (ms : List ℕ). cond (t s) (s ∷ ms) ms) (passed_next t (s + 1) n)
    ∙ moved (t s) (filter t (range_with_len (s + 1) n)) (cond (t (s + 1 + n)) ((s + 1 + n) ∷ []) [])
    ∙ ap (λ (m : ℕ). cond (t s) (s ∷ filter t (range_with_len (s + 1) n)) (filter t (range_with_len (s + 1) n)) ++ cond (t m) (m ∷ []) []) (let same : s + 1 + n ≡ s + suc n = omega arith in same)
  where
    moved : (b : Bool) (front last : List ℕ) → cond b (s ∷ (front ++ last)) (front ++ last) ≡ cond b (s ∷ front) front ++ last
    moved true front last = refl
    moved false front last = refl

pub passed_more : (t : ℕ → Bool) (s n : ℕ) → filter t (range_with_len s (n + 1)) ≡ filter t (range_with_len s n) ++ cond (t (s + n)) ((s + n) ∷ []) []
passed_more t s n = ap (λ (k : ℕ). filter t (range_with_len s k)) (let same : n + 1 ≡ suc n = omega arith in same) ∙ passed_next t s n

-- ---- what is made of each item, and of one more
map_push : {X Y : Type 0} (f : X → Y) (xs : List X) (x : X) → map f (xs ++ x ∷ []) ≡ map f xs ++ f x ∷ []
map_push f [] x = refl
map_push {Y = Y} f (y ∷ xs) x = ap (λ (ys : List Y). f y ∷ ys) (map_push f xs x)

pub made_more : {X Y : Type 0} (f : X → Y) (g : ℕ → Y) (xs more : List X) (x : X) (n : ℕ) → more ≡ xs ++ x ∷ [] → map f xs ≡ map g (range_with_len 0 n) → f x ≡ g n → map f more ≡ map g (range_with_len 0 (n + 1))
made_more {Y = Y} f g xs more x n pushed before is =
    ap (map f) pushed ∙ map_push f xs x ∙ ap (λ (ys : List Y). ys ++ f x ∷ []) before ∙ ap (λ (y : Y). map g (range_with_len 0 n) ++ y ∷ []) is ∙ sym (map-range_with_len_more g 0 n n (zero-add n))

pub map_taken : {X Y : Type 0} (f : X → Y) (xs : List X) (n : ℕ) (d : X) → n < length xs → map f (take (n + 1) xs) ≡ map f (take n xs) ++ f (get_or xs n d) ∷ []
map_taken f xs n d less = ap (map f) (take_more xs n d less) ∙ map_push f (take n xs) (get_or xs n d)

-- what all have, the item at a place has
pub all_at : {X : Type 0} (P : X → Type 0) (xs : List X) (n : ℕ) (d : X) → AllByRecursion P xs → n < length xs → P (get_or xs n d)
all_at P [] n d all less = absurd (omega (arith, less))
all_at P (x ∷ xs) zero d all less = all.0
all_at P (x ∷ xs) (suc n) d all less = all_at P xs n d all.1 (omega (arith, less))
