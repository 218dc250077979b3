-- Counts in lists of numbers: in ascending order, after a map and a filter, and lists that have each number as often.
use Rattle.std.proofs.Common.{◌≡◌, ◌⊎◌, inl, inr, ℕ, ◌+◌, ◌<◌, ◌≤◌, Bool, true, false, cond, ◌&&◌, List, [], ◌∷◌, count_by, filter, length, map, nat_eq, nat_le, refl, sym, ap, ◌∙◌, arith}
use Rattle.std.specs.List.{AllByRecursion}
use Rattle.std.proofs.lemmas.Bool.{eq-eqb, ne_eqb, cases_eq, leb-false, leb-true}
use Rattle.dump_bytes.specs.Bounds.{Ascends}
use Rattle.pager_rules.proofs.Basics.{count_cons, count_cons_no, count_cons_yes, nat_eq_refl}
use Rattle.dump_laws.specs.Ascending.{ascending, placed}

abbrev pub one_if : Bool → ℕ
one_if b = cond b 1 0

-- how often a number stands in a list
abbrev pub times : ℕ → List ℕ → ℕ
times v numbers = count_by (λ (n : ℕ). nat_eq n v) numbers

-- ---- maps and filters
pub count_map : {X Y : Type 0} (f : X → Y) (t : Y → Bool) (xs : List X) → count_by t (map f xs) ≡ count_by (λ (x : X). t (f x)) xs
count_map f t [] = refl
count_map {X} f t (x ∷ xs) =
    let all = count_cons t (f x) (map f xs) in
    let own = count_cons (λ (y : X). t (f y)) x xs in
    let rest = count_map f t xs in
    omega (arith, all, own, rest)

pub count_filter : {X : Type 0} (t q : X → Bool) (xs : List X) → count_by t (filter q xs) ≡ count_by (λ (x : X). q x && t x) xs
count_filter t q [] = refl
count_filter {X} t q (x ∷ xs) = go (q x) refl (count_filter t q xs)
  where
    go : (b : Bool) → q x ≡ b → count_by t (filter q xs) ≡ count_by (λ (y : X). q y && t y) xs
        → count_by t (cond b (x ∷ filter q xs) (filter q xs)) ≡ count_by (λ (y : X). q y && t y) (x ∷ xs)
    go true is rest =
        let all = count_cons t x (filter q xs) in
        let own = count_cons (λ (y : X). q y && t y) x xs in
        let here : one_if (q x && t x) ≡ one_if (t x) = ap (λ (b : Bool). one_if (b && t x)) is in
        omega (arith, all, own, here, rest)
    go false is rest =
        let own = count_cons (λ (y : X). q y && t y) x xs in
        let here : one_if (q x && t x) ≡ 0 = ap (λ (b : Bool). one_if (b && t x)) is in
        omega (arith, own, here, rest)

pub length_map : {X Y : Type 0} (f : X → Y) (xs : List X) → length (map f xs) ≡ length xs
length_map f [] = refl
length_map f (x ∷ xs) = let rest = length_map f xs in omega (arith, rest)

-- ---- ascending order keeps counts
count_placed : (t : ℕ → Bool) (n : ℕ) (ms : List ℕ) → count_by t (placed n ms) ≡ one_if (t n) + count_by t ms
count_placed t n [] = count_cons t n []
count_placed t n (m ∷ ms) = go (nat_le n m) (count_placed t n ms)
  where
    go : (b : Bool) → count_by t (placed n ms) ≡ one_if (t n) + count_by t ms → count_by t (cond b (n ∷ m ∷ ms) (m ∷ placed n ms)) ≡ one_if (t n) + count_by t (m ∷ ms)
    go true rest = count_cons t n (m ∷ ms)
    go false rest =
        let all = count_cons t m (placed n ms) in
        let own = count_cons t m ms in
        omega (arith, all, own, rest)

pub count_ascending : (t : ℕ → Bool) (ns : List ℕ) → count_by t (ascending ns) ≡ count_by t ns
count_ascending t [] = refl
count_ascending t (n ∷ ns) =
    let first = count_placed t n (ascending ns) in
    let all = count_cons t n ns in
    let rest = count_ascending t ns in
    omega (arith, first, all, rest)

length_placed : (n : ℕ) (ms : List ℕ) → length (placed n ms) ≡ 1 + length ms
length_placed n [] = refl
length_placed n (m ∷ ms) = go (nat_le n m) (length_placed n ms)
  where
    go : (b : Bool) → length (placed n ms) ≡ 1 + length ms → length (cond b (n ∷ m ∷ ms) (m ∷ placed n ms)) ≡ 1 + length (m ∷ ms)
    go true rest = omega arith
    go false rest = omega (arith, rest)

pub length_ascending : (ns : List ℕ) → length (ascending ns) ≡ length ns
length_ascending [] = refl
length_ascending (n ∷ ns) = let first = length_placed n (ascending ns) in let rest = length_ascending ns in omega (arith, first, rest)

all_placed : (P : ℕ → Type 0) (n : ℕ) (ms : List ℕ) → P n → AllByRecursion P ms → AllByRecursion P (placed n ms)
all_placed P n [] is all = (is, tt)
all_placed P n (m ∷ ms) is all = go (nat_le n m) (all_placed P n ms is all.1)
  where
    go : (b : Bool) → AllByRecursion P (placed n ms) → AllByRecursion P (cond b (n ∷ m ∷ ms) (m ∷ placed n ms))
    go true rest = (is, all)
    go false rest = (all.0, rest)

pub all_ascending : (P : ℕ → Type 0) (ns : List ℕ) → AllByRecursion P ns → AllByRecursion P (ascending ns)
all_ascending P [] all = tt
all_ascending P (n ∷ ns) all = all_placed P n (ascending ns) all.0 (all_ascending P ns all.1)

-- ---- no number is above a later one
abbrev pub Rises : List ℕ → Type 0
Rises [] = Unit {0}
Rises (n ∷ ns) = AllByRecursion (λ (m : ℕ). n ≤ m) ns × Rises ns

from_lower : (n m : ℕ) (ms : List ℕ) → n ≤ m → AllByRecursion (λ (k : ℕ). m ≤ k) ms → AllByRecursion (λ (k : ℕ). n ≤ k) ms
from_lower n m [] least all = tt
from_lower n m (k ∷ ms) least all = (let first = all.0 in omega (arith, least, first), from_lower n m ms least all.1)

placed_rises : (n : ℕ) (ms : List ℕ) → Rises ms → Rises (placed n ms)
placed_rises n [] rises = (tt, tt)
placed_rises n (m ∷ ms) rises = go (nat_le n m) refl (placed_rises n ms rises.1)
  where
    go : (b : Bool) → nat_le n m ≡ b → Rises (placed n ms) → Rises (cond b (n ∷ m ∷ ms) (m ∷ placed n ms))
    go true is rest = let least = leb-true n m is in ((least, from_lower n m ms least rises.0), rises)
    go false is rest = (all_placed (λ (k : ℕ). m ≤ k) n ms (let above = leb-false n m is in omega (arith, above)) rises.0, rest)

pub ascending_rises : (ns : List ℕ) → Rises (ascending ns)
ascending_rises [] = tt
ascending_rises (n ∷ ns) = placed_rises n (ascending ns) (ascending_rises ns)

-- a number that isn't there is none of the list
absent : (n : ℕ) (ms : List ℕ) → times n ms ≡ 0 → AllByRecursion (λ (m : ℕ). n ≤ m) ms → AllByRecursion (λ (m : ℕ). n < m) ms
absent n [] none least = tt
absent n (m ∷ ms) none least = (go (cases_eq m n), absent n ms (let all = count_cons (λ (k : ℕ). nat_eq k n) m ms in omega (arith, all, none)) least.1)
  where
    go : (m ≡ n) ⊎ (m ≡ n → ⊥) → n < m
    go (inl same) = absurd (let all = count_cons_yes (λ (k : ℕ). nat_eq k n) m ms (eq-eqb m n same) in omega (arith, all, none))
    go (inr other) = let low = least.0 in omega (arith, low, other)

-- where no number stands twice each is above those before it
pub once_ascends : (ns : List ℕ) → Rises ns → ((v : ℕ) → times v ns ≤ 1) → Ascends ns
once_ascends [] rises once = tt
once_ascends (n ∷ ns) rises once = (
  absent n ns (let here = count_cons_yes (λ (k : ℕ). nat_eq k n) n ns (nat_eq_refl n) in let one = once n in omega (arith, here, one)) rises.0,
  once_ascends ns rises.1 (λ v. let all = count_cons (λ (k : ℕ). nat_eq k v) n ns in let one = once v in omega (arith, all, one)),
)

-- ---- lists that have each number as often
abbrev pub AreAsOften : List ℕ → List ℕ → Type 0
AreAsOften xs ys = (v : ℕ) → times v xs ≡ times v ys

-- the first number of a rising list is the least one that it has
later_above : (n y : ℕ) (ms : List ℕ) → 0 < times n ms → AllByRecursion (λ (m : ℕ). y ≤ m) ms → y ≤ n
later_above n y [] some least = absurd (omega (arith, some))
later_above n y (m ∷ ms) some least = by (cases_eq m n) (λ more. later_above n y ms more least.1)
  where
    by : (m ≡ n) ⊎ (m ≡ n → ⊥) → (0 < times n ms → y ≤ n) → y ≤ n
    by (inl same) rest = let low = least.0 in omega (arith, low, same)
    by (inr other) rest = rest (let all = count_cons_no (λ (k : ℕ). nat_eq k n) m ms (ne_eqb m n other) in omega (arith, all, some))

least_first : (n y : ℕ) (ys : List ℕ) → 0 < times n (y ∷ ys) → Rises (y ∷ ys) → y ≤ n
least_first n y ys some rises = go (cases_eq y n)
  where
    go : (y ≡ n) ⊎ (y ≡ n → ⊥) → y ≤ n
    go (inl same) = omega (arith, same)
    go (inr other) = later_above n y ys (let all = count_cons_no (λ (k : ℕ). nat_eq k n) y ys (ne_eqb y n other) in omega (arith, all, some)) rises.0

pub same_rising : (xs ys : List ℕ) → Rises xs → Rises ys → AreAsOften xs ys → xs ≡ ys
same_rising [] [] left right often = refl
same_rising [] (y ∷ ys) left right often =
    absurd (let here = count_cons_yes (λ (k : ℕ). nat_eq k y) y ys (nat_eq_refl y) in let both : 0 ≡ times y (y ∷ ys) = often y in omega (arith, here, both))
same_rising (x ∷ xs) [] left right often =
    absurd (let here = count_cons_yes (λ (k : ℕ). nat_eq k x) x xs (nat_eq_refl x) in let both : times x (x ∷ xs) ≡ 0 = often x in omega (arith, here, both))
same_rising (x ∷ xs) (y ∷ ys) left right often =
    let at_x = count_cons_yes (λ (k : ℕ). nat_eq k x) x xs (nat_eq_refl x) in
    let at_y = count_cons_yes (λ (k : ℕ). nat_eq k y) y ys (nat_eq_refl y) in
    let both_x = often x in
    let both_y = often y in
    let below = least_first x y ys (omega (arith, at_x, both_x)) right in
    let above = least_first y x xs (omega (arith, at_y, both_y)) left in
    let same : x ≡ y = omega (arith, below, above) in
    joined same (same_rising xs ys left.1 right.1 (λ v. tails same v))
  where
    tails : x ≡ y → (v : ℕ) → times v xs ≡ times v ys
    tails same v =
        let first = count_cons (λ (k : ℕ). nat_eq k v) x xs in
        let second = count_cons (λ (k : ℕ). nat_eq k v) y ys in
        let heads : one_if (nat_eq x v) ≡ one_if (nat_eq y v) = ap (λ (n : ℕ). one_if (nat_eq n v)) same in
        let both = often v in
        omega (arith, first, second, heads, both)

    joined : x ≡ y → xs ≡ ys → x ∷ xs ≡ y ∷ ys
    joined same rest = ap (λ (n : ℕ). n ∷ xs) same ∙ ap (λ (ns : List ℕ). y ∷ ns) rest

-- such lists are the same in ascending order
pub same_ascending : (xs ys : List ℕ) → AreAsOften xs ys → ascending xs ≡ ascending ys
same_ascending xs ys often =
    same_rising (ascending xs) (ascending ys) (ascending_rises xs) (ascending_rises ys)
    (λ v. count_ascending (λ (n : ℕ). nat_eq n v) xs ∙ often v ∙ sym (count_ascending (λ (n : ℕ). nat_eq n v) ys))

-- and as long, with as many that pass a test
pub same_length : (xs ys : List ℕ) → AreAsOften xs ys → length xs ≡ length ys
same_length xs ys often = sym (length_ascending xs) ∙ ap (λ (ns : List ℕ). length ns) (same_ascending xs ys often) ∙ length_ascending ys

pub same_count : (t : ℕ → Bool) (xs ys : List ℕ) → AreAsOften xs ys → count_by t xs ≡ count_by t ys
same_count t xs ys often = sym (count_ascending t xs) ∙ ap (λ (ns : List ℕ). count_by t ns) (same_ascending xs ys often) ∙ count_ascending t ys

-- as many pass, by two tests, where each number that passes one stands as often as where it passes the other
all_count : (xs : List ℕ) → count_by (λ (n : ℕ). true) xs ≡ length xs
all_count [] = refl
all_count (x ∷ xs) = let all = count_cons (λ (n : ℕ). true) x xs in let rest = all_count xs in omega (arith, all, rest)

passed_length : (t : ℕ → Bool) (xs : List ℕ) → length (filter t xs) ≡ count_by t xs
passed_length t xs = sym (all_count (filter t xs)) ∙ count_filter (λ (n : ℕ). true) t xs ∙ same xs
  where
    same : (ns : List ℕ) → count_by (λ (n : ℕ). t n && true) ns ≡ count_by t ns
    same [] = refl
    same (n ∷ ns) =
        let left = count_cons (λ (m : ℕ). t m && true) n ns in
        let right = count_cons t n ns in
        let here = by (t n) in
        let rest = same ns in
        omega (arith, left, right, here, rest)
      where
        by : (b : Bool) → one_if (b && true) ≡ one_if b
        by true = refl
        by false = refl

passed_times : (t : ℕ → Bool) (v : ℕ) (xs : List ℕ) → times v (filter t xs) ≡ cond (t v) (times v xs) 0
passed_times t v xs = count_filter (λ (n : ℕ). nat_eq n v) t xs ∙ at xs
  where
    at : (ns : List ℕ) → count_by (λ (n : ℕ). t n && nat_eq n v) ns ≡ cond (t v) (times v ns) 0
    at [] = none (t v) 0
      where
        none : (b : Bool) (k : ℕ) → k ≡ cond b k k
        none true k = refl
        none false k = refl
    at (n ∷ ns) = go (cases_eq n v) (at ns)
      where
        go : (n ≡ v) ⊎ (n ≡ v → ⊥) → count_by (λ (m : ℕ). t m && nat_eq m v) ns ≡ cond (t v) (times v ns) 0
            → count_by (λ (m : ℕ). t m && nat_eq m v) (n ∷ ns) ≡ cond (t v) (times v (n ∷ ns)) 0
        go (inl same) rest = by (t v) (ap t same) rest
          where
            by : (b : Bool) → t n ≡ b → count_by (λ (m : ℕ). t m && nat_eq m v) ns ≡ cond b (times v ns) 0
                → count_by (λ (m : ℕ). t m && nat_eq m v) (n ∷ ns) ≡ cond b (times v (n ∷ ns)) 0
            by true is rest =
                let left = count_cons_yes (λ (m : ℕ). t m && nat_eq m v) n ns (ap (λ (b : Bool). b && nat_eq n v) is ∙ eq-eqb n v same) in
                let right = count_cons_yes (λ (m : ℕ). nat_eq m v) n ns (eq-eqb n v same) in
                omega (arith, left, right, rest)
            by false is rest =
                let left = count_cons_no (λ (m : ℕ). t m && nat_eq m v) n ns (ap (λ (b : Bool). b && nat_eq n v) is) in
                omega (arith, left, rest)
        go (inr other) rest =
            let left = count_cons_no (λ (m : ℕ). t m && nat_eq m v) n ns (ap (λ (b : Bool). t n && b) (ne_eqb n v other) ∙ never (t n)) in
            let right = count_cons_no (λ (m : ℕ). nat_eq m v) n ns (ne_eqb n v other) in
            left ∙ rest ∙ ap (λ (k : ℕ). cond (t v) k 0) (sym right)
          where
            never : (b : Bool) → (b && false) ≡ false
            never true = refl
            never false = refl

pub same_passed : (t q : ℕ → Bool) (xs ys : List ℕ) → ((v : ℕ) → cond (t v) (times v xs) 0 ≡ cond (q v) (times v ys) 0) → count_by t xs ≡ count_by q ys
same_passed t q xs ys often =
    sym (passed_length t xs)
    ∙ same_length (filter t xs) (filter q ys) (λ v. passed_times t v xs ∙ often v ∙ sym (passed_times q v ys))
    ∙ passed_length q ys
