-- Lists in reverse order, and lists without what passes a test.
use Rattle.std.proofs.Common.{◌≡◌, ◌≤◌, Bool, true, false, cond, not, List, [], ◌∷◌, ◌++◌, Some, length, filter, find, reverse, count_by, refl, sym, ap, ◌∙◌, subst, arith}
use Rattle.std.specs.List.{AllByRecursion}
use Rattle.std.proofs.lemmas.List.{append-nil, length-reverse, nil_from_length, reverse-append}
use Rattle.std.proofs.lemmas.List.Elements.{filter-append}
use Rattle.std.proofs.lemmas.List.Sums.{length-filter}
use Rattle.std.proofs.lemmas.Option.{same_Some}
use Rattle.pager_rules.proofs.Basics.{count_cons, count_cons_no, count_cons_yes}
use Rattle.vm_state.proofs.ReadsBegin.{all_and_one}
use Rattle.pager_rules.proofs.Lists.{count_filter_le, count_push, filter_all}

-- ---- in reverse order
pub reverse_cons : {X : Type 0} (x : X) (xs : List X) → reverse (x ∷ xs) ≡ reverse xs ++ x ∷ []
reverse_cons x xs = reverse-append (x ∷ []) xs

pub all_reverse : {X : Type 0} (P : X → Type 0) (xs : List X) → AllByRecursion P xs → AllByRecursion P (reverse xs)
all_reverse P [] all = tt
all_reverse P (x ∷ xs) all = subst (AllByRecursion P) (sym (reverse_cons x xs)) (all_and_one P (reverse xs) x (all_reverse P xs all.1) all.0)

pub count_reverse : {X : Type 0} (p : X → Bool) (xs : List X) → count_by p (reverse xs) ≡ count_by p xs
count_reverse p [] = refl
count_reverse p (x ∷ xs) =
    let whole = ap (count_by p) (reverse_cons x xs) in
    let last = count_push p (reverse xs) x in
    let first = count_cons p x xs in
    let rest = count_reverse p xs in
    omega (arith, whole, last, first, rest)

filter_reverse : {X : Type 0} (p : X → Bool) (xs : List X) → filter p (reverse xs) ≡ reverse (filter p xs)
filter_reverse p [] = refl
filter_reverse {X} p (x ∷ xs) =
    ap (filter p) (reverse_cons x xs)
    ∙ (filter-append p (reverse xs) (x ∷ []) ∙ (ap (λ (ys : List X). ys ++ filter p (x ∷ [])) (filter_reverse p xs) ∙ last (p x)))
  where
    last : (b : Bool) → reverse (filter p xs) ++ cond b (x ∷ []) [] ≡ reverse (cond b (x ∷ filter p xs) (filter p xs))
    last true = sym (reverse_cons x (filter p xs))
    last false = append-nil (reverse (filter p xs))

pub nothing_reversed : {X : Type 0} (xs : List X) → reverse xs ≡ [] → xs ≡ []
nothing_reversed xs none = nil_from_length xs (sym (length-reverse xs) ∙ ap length none)

-- ---- what passes two tests
filter_yes : {X : Type 0} (p : X → Bool) (x : X) (xs : List X) → p x ≡ true → filter p (x ∷ xs) ≡ x ∷ filter p xs
filter_yes p x xs is = ap (λ (b : Bool). cond b (x ∷ filter p xs) (filter p xs)) is

filter_no : {X : Type 0} (p : X → Bool) (x : X) (xs : List X) → p x ≡ false → filter p (x ∷ xs) ≡ filter p xs
filter_no p x xs is = ap (λ (b : Bool). cond b (x ∷ filter p xs) (filter p xs)) is

filter_swap : {X : Type 0} (p q : X → Bool) (xs : List X) → filter p (filter q xs) ≡ filter q (filter p xs)
filter_swap p q [] = refl
filter_swap {X} p q (x ∷ xs) = go (p x) refl (q x) refl (filter_swap p q xs)
  where
    go : (b : Bool) → p x ≡ b → (c : Bool) → q x ≡ c → filter p (filter q xs) ≡ filter q (filter p xs)
        → filter p (cond c (x ∷ filter q xs) (filter q xs)) ≡ filter q (cond b (x ∷ filter p xs) (filter p xs))
    go true is_p true is_q same = filter_yes p x (filter q xs) is_p ∙ (ap (λ (ys : List X). x ∷ ys) same ∙ sym (filter_yes q x (filter p xs) is_q))
    go true is_p false not_q same = same ∙ sym (filter_no q x (filter p xs) not_q)
    go false not_p true is_q same = filter_no p x (filter q xs) not_p ∙ same
    go false not_p false not_q same = same

-- a test that all that passes the first one passes changes nothing
pub filter_within : {X : Type 0} (p q : X → Bool) (xs : List X) → AllByRecursion (λ (x : X). p x ≡ true → q x ≡ true) xs → filter p (filter q xs) ≡ filter p xs
filter_within p q [] all = refl
filter_within {X} p q (x ∷ xs) all = go (p x) refl (q x) refl (filter_within p q xs all.1)
  where
    go : (b : Bool) → p x ≡ b → (c : Bool) → q x ≡ c → filter p (filter q xs) ≡ filter p xs → filter p (cond c (x ∷ filter q xs) (filter q xs)) ≡ filter p (x ∷ xs)
    go true is_p true is_q same = filter_yes p x (filter q xs) is_p ∙ (ap (λ (ys : List X). x ∷ ys) same ∙ sym (filter_yes p x xs is_p))
    go true is_p false not_q same = absurd (let is_q = all.0 is_p in cc)
    go false not_p true is_q same = filter_no p x (filter q xs) not_p ∙ (same ∙ sym (filter_no p x xs not_p))
    go false not_p false not_q same = same ∙ sym (filter_no p x xs not_p)

pub all_pass : {X : Type 0} (p : X → Bool) (xs : List X) → AllByRecursion (λ (x : X). p x ≡ true) (filter p xs)
all_pass p [] = tt
all_pass {X} p (x ∷ xs) = go (p x) refl (all_pass p xs)
  where
    go : (b : Bool) → p x ≡ b → AllByRecursion (λ (y : X). p y ≡ true) (filter p xs) → AllByRecursion (λ (y : X). p y ≡ true) (cond b (x ∷ filter p xs) (filter p xs))
    go true is rest = (is, rest)
    go false is rest = rest

-- where nothing passes, all are left
pub none_pass : {X : Type 0} (p : X → Bool) (xs : List X) → filter p xs ≡ [] → filter (λ (x : X). not (p x)) xs ≡ xs
none_pass p xs none = filter_all p xs (sym (length-filter p xs) ∙ ap length none)

pub count_zero : {X : Type 0} (p : X → Bool) (xs : List X) → count_by p xs ≡ 0 → AllByRecursion (λ (x : X). p x ≡ false) xs
count_zero p [] none = tt
count_zero {X} p (x ∷ xs) none = go (p x) refl (count_zero p xs)
  where
    go : (b : Bool) → p x ≡ b → (count_by p xs ≡ 0 → AllByRecursion (λ (y : X). p y ≡ false) xs) → AllByRecursion (λ (y : X). p y ≡ false) (x ∷ xs)
    go true is rest = absurd (let more = count_cons_yes p x xs is in omega (arith, more, none))
    go false is rest = (is, rest (let same = count_cons_no p x xs is in omega (arith, same, none)))

-- ---- one item that passes
pub only_found : {X : Type 0} (q : X → Bool) (xs : List X) (x : X) → find q xs ≡ Some x → count_by q xs ≤ 1 → AllByRecursion (λ (y : X). q y ≡ true → y ≡ x) xs
only_found q [] x found once = tt
only_found {X} q (y ∷ xs) x found once = go (q y) refl found (only_found q xs x)
  where
    later : (zs : List X) → AllByRecursion (λ (z : X). q z ≡ false) zs → AllByRecursion (λ (z : X). q z ≡ true → z ≡ x) zs
    later [] none = tt
    later (z ∷ zs) none = (λ is. absurd (let fails = none.0 in cc), later zs none.1)

    go : (b : Bool) → q y ≡ b → cond b (Some y) (find q xs) ≡ Some x → (find q xs ≡ Some x → count_by q xs ≤ 1 → AllByRecursion (λ (z : X). q z ≡ true → z ≡ x) xs) → AllByRecursion (λ (z : X). q z ≡ true → z ≡ x) (y ∷ xs)
    go true is here rest = (λ passes. same_Some y x here, later xs (count_zero q xs (let more = count_cons_yes q y xs is in omega (arith, more, once))))
    go false is there rest = (λ passes. absurd (cc), rest there (let same = count_cons_no q y xs is in omega (arith, same, once)))

-- of the items that pass p, in reverse order, the first one alone passes q: without what passes q the others are left
pub tail_left : {X : Type 0} (p q : X → Bool) (all : List X) (x : X) (xs : List X) → reverse (filter p all) ≡ x ∷ xs → q x ≡ true → count_by q all ≤ 1
    → reverse (filter p (filter (λ (y : X). not (q y)) all)) ≡ xs
tail_left {X} p q all x xs are is once =
    let kept : X → Bool = λ y. not (q y) in
    let few : count_by q (x ∷ xs) ≤ 1 =
    (let whole = ap (count_by q) are in
    let turned = count_reverse q (filter p all) in
    let fewer = count_filter_le q p all in
    omega (arith, whole, turned, fewer, once)) in
    let none : count_by q xs ≡ 0 = (let more = count_cons_yes q x xs is in omega (arith, more, few)) in
    ap reverse (filter_swap p kept all)
    ∙ (sym (filter_reverse kept (filter p all)) ∙ (ap (filter kept) are ∙ (filter_no kept x xs (ap not is) ∙ filter_all q xs none)))
