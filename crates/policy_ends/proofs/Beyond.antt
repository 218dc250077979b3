-- What each item of a list has but the first ones, as the list is changed at its two ends.
use Rattle.std.proofs.Common.{◌≡◌, ℕ, zero, suc, ◌+◌, ◌<◌, ◌≤◌, Bool, true, false, not, cond, List, [], ◌∷◌, ◌++◌, filter, length, nat_eq, refl, sym, subst, arith}
use Rattle.std.specs.List.{AllByRecursion}
use Rattle.std.proofs.lemmas.Bool.{eqb-false, eqb-true}
use Rattle.page_lists.specs.Lists.{count_of, without}
use Rattle.pager_rules.proofs.Basics.{count_cons, nat_eq_refl}
use Rattle.pager_rules.proofs.Lists.{all_filter}

-- each but the first n
abbrev pub AreBeyond : (ℕ → Type 0) → ℕ → List ℕ → Type 0
AreBeyond P zero xs = AllByRecursion P xs
AreBeyond P (suc n) [] = Unit {0}
AreBeyond P (suc n) (x ∷ xs) = AreBeyond P n xs

pub beyond_more : (P : ℕ → Type 0) (m n : ℕ) (xs : List ℕ) → m ≤ n → AreBeyond P m xs → AreBeyond P n xs
beyond_more P zero zero xs less each = each
beyond_more P zero (suc n) [] less each = tt
beyond_more P zero (suc n) (x ∷ xs) less each = beyond_more P zero n xs (omega arith) each.1
beyond_more P (suc m) zero xs less each = absurd (omega (arith, less))
beyond_more P (suc m) (suc n) [] less each = tt
beyond_more P (suc m) (suc n) (x ∷ xs) less each = beyond_more P m n xs (omega (arith, less)) each

-- beyond the whole list there is none
pub beyond_all : (P : ℕ → Type 0) (n : ℕ) (xs : List ℕ) → length xs ≤ n → AreBeyond P n xs
beyond_all P zero [] less = tt
beyond_all P zero (x ∷ xs) less = absurd (omega (arith, less))
beyond_all P (suc n) [] less = tt
beyond_all P (suc n) (x ∷ xs) less = beyond_all P n xs (omega (arith, less))

beyond_filter : (P : ℕ → Type 0) (t : ℕ → Bool) (n : ℕ) (xs : List ℕ) → AreBeyond P n xs → AreBeyond P n (filter t xs)
beyond_filter P t zero xs each = all_filter P t xs each
beyond_filter P t (suc n) [] each = tt
beyond_filter P t (suc n) (x ∷ xs) each = by (t x) (beyond_filter P t n xs each)
  where
    by : (b : Bool) → AreBeyond P n (filter t xs) → AreBeyond P (suc n) (cond b (x ∷ filter t xs) (filter t xs))
    by true rest = rest
    by false rest = beyond_more P n (suc n) (filter t xs) (omega arith) rest

-- the head is taken
pub beyond_taken : (P : ℕ → Type 0) (m n : ℕ) (xs rest : List ℕ) (f : ℕ) → xs ≡ f ∷ rest → m ≤ n + 1 → AreBeyond P m xs → AreBeyond P n (without xs f)
beyond_taken P m n xs rest f heads less each =
    subst (λ (ys : List ℕ). AreBeyond P n (without ys f)) (sym heads)
    (subst (λ (b : Bool). AreBeyond P n (cond (not b) (f ∷ without rest f) (without rest f))) (sym (nat_eq_refl f)) (beyond_filter P (λ (y : ℕ). not (nat_eq y f)) n rest (past_head m less (subst (AreBeyond P m) heads each))))
  where
    past_head : (k : ℕ) → k ≤ n + 1 → AreBeyond P k (f ∷ rest) → AreBeyond P n rest
    past_head zero less each = beyond_more P zero n rest (omega arith) each.1
    past_head (suc k) less each = beyond_more P k n rest (omega (arith, less)) each

-- one is pushed at the end
pub beyond_pushed : (P : ℕ → Type 0) (n : ℕ) (xs : List ℕ) (f : ℕ) → P f → AreBeyond P n xs → AreBeyond P n (xs ++ f ∷ [])
beyond_pushed P zero [] f has each = (has, tt)
beyond_pushed P zero (x ∷ xs) f has each = (each.0, beyond_pushed P zero xs f has each.1)
beyond_pushed P (suc n) [] f has each = beyond_all P n [] (omega arith)
beyond_pushed P (suc n) (x ∷ xs) f has each = beyond_pushed P n xs f has each

pub beyond_both : (P Q R : ℕ → Type 0) → ((x : ℕ) → P x → Q x → R x) → (n : ℕ) (xs : List ℕ) → AreBeyond P n xs → AllByRecursion Q xs → AreBeyond R n xs
beyond_both P Q R gives zero [] each all = tt
beyond_both P Q R gives zero (x ∷ xs) each all = (gives x each.0 all.0, beyond_both P Q R gives zero xs each.1 all.1)
beyond_both P Q R gives (suc n) [] each all = tt
beyond_both P Q R gives (suc n) (x ∷ xs) each all = beyond_both P Q R gives n xs each all.1

pub beyond_each : (P Q : ℕ → Type 0) → ((x : ℕ) → P x → Q x) → (n : ℕ) (xs : List ℕ) → AreBeyond P n xs → AreBeyond Q n xs
beyond_each P Q gives zero [] each = tt
beyond_each P Q gives zero (x ∷ xs) each = (gives x each.0, beyond_each P Q gives zero xs each.1)
beyond_each P Q gives (suc n) [] each = tt
beyond_each P Q gives (suc n) (x ∷ xs) each = beyond_each P Q gives n xs each

-- one that isn't in the list is none of its items
pub none_is : (xs : List ℕ) (f : ℕ) → count_of xs f ≡ 0 → AllByRecursion (λ (x : ℕ). nat_eq f x ≡ false) xs
none_is [] f none = tt
none_is (x ∷ xs) f none = by (nat_eq x f) refl (count_cons (λ (y : ℕ). nat_eq y f) x xs) (none_is xs f)
  where
    apart : nat_eq x f ≡ false → (b : Bool) → nat_eq f x ≡ b → b ≡ false
    apart other false is = refl
    apart other true is = absurd (eqb-false x f other (sym (eqb-true f x is)))

    by : (b : Bool) → nat_eq x f ≡ b → count_of (x ∷ xs) f ≡ cond b 1 0 + count_of xs f → (count_of xs f ≡ 0 → AllByRecursion (λ (y : ℕ). nat_eq f y ≡ false) xs) → AllByRecursion (λ (y : ℕ). nat_eq f y ≡ false) (x ∷ xs)
    by true same count rest = absurd (omega (arith, none, count))
    by false other count rest = (apart other (nat_eq f x) refl, rest (omega (arith, none, count)))

-- what each has, one that is in the list has
pub each_counted : (P : ℕ → Type 0) (xs : List ℕ) (f : ℕ) → AllByRecursion P xs → 0 < count_of xs f → P f
each_counted P [] f each some = absurd (omega (arith, some))
each_counted P (x ∷ xs) f each some = by (nat_eq x f) refl (count_cons (λ (y : ℕ). nat_eq y f) x xs) (each_counted P xs f each.1)
  where
    by : (b : Bool) → nat_eq x f ≡ b → count_of (x ∷ xs) f ≡ cond b 1 0 + count_of xs f → (0 < count_of xs f → P f) → P f
    by true same count rest = subst P (eqb-true x f same) each.0
    by false other count rest = rest (omega (arith, some, count))
