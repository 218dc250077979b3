-- The places whose flag is set, as a list.
use Rattle.std.proofs.Common.{◌≡◌, ℕ, suc, zero, ◌+◌, ◌-◌, ◌<◌, ◌≤◌, Bool, true, false, List, [], ◌∷◌, ◌++◌, length, length-append, get_or, ap, sym, ◌∙◌, refl, subst, inl, inr, arith, eqb, ◌||◌}
use Rattle.std.specs.List.{AllPairs}
use Rattle.std.proofs.lemmas.Bool.{cases_lt, cases_eq, false_from_ne_true, eqb-true, eq-eqb, ne_eqb, or_cases, or_left, or_right}
use Rattle.std.proofs.lemmas.List.{get_or_append_left, get_or-append_right}
use Rattle.paging_study.specs.Places.{one_if, count_places, has}

or_false : (a : Bool) → (a || false) ≡ a
or_false true = refl
or_false false = refl

or_assoc : (a b c : Bool) → (a || (b || c)) ≡ ((a || b) || c)
or_assoc true b c = refl
or_assoc false b c = refl

or_skip : (a b : Bool) → b ≡ false → (a || b) ≡ a
or_skip true b none = refl
or_skip false b none = none

pub default_any : (xs : List ℕ) (i d e : ℕ) → i < length xs → get_or xs i d ≡ get_or xs i e
default_any [] i d e below = absurd (omega arith)
default_any (x ∷ xs) zero d e below = refl
default_any (x ∷ xs) (suc i) d e below = default_any xs i d e (omega arith)

pub has-append : (xs : List ℕ) (y z : ℕ) → has (xs ++ y ∷ []) z ≡ (has xs z || eqb z y)
has-append [] y z = or_false (eqb z y)
has-append (x ∷ xs) y z = ap (λ b. eqb z x || b) (has-append xs y z) ∙ or_assoc (eqb z x) (has xs z) (eqb z y)

-- an element is in the list
pub has-at : (xs : List ℕ) (i : ℕ) → i < length xs → has xs (get_or xs i 0) ≡ true
has-at [] i below = absurd (omega arith)
has-at (x ∷ xs) zero below = or_left _ _ (eq-eqb x x refl)
has-at (x ∷ xs) (suc i) below = or_right _ _ (has-at xs i (omega arith))

-- the list has the places up to n whose flag is set, in order
pub record ListedSoFar (flag : ℕ → Bool) (places : List ℕ) (n : ℕ) : Type 0 where
  pub same : (i : ℕ) → i < n → has places (suc i) ≡ flag (suc i)
  pub range : (place : ℕ) → has places place ≡ true → (1 ≤ place) × (place ≤ n)
  pub count : length places ≡ count_places flag n
  pub ascending : AllPairs (λ a b. a < b) places

module _ (flag : ℕ → Bool) (places : List ℕ) (n : ℕ) (listed : ListedSoFar flag places n) where
  absent : has places (suc n) ≡ false
  absent = false_from_ne_true _ (λ there. let range = listed.range (suc n) there in omega (arith, range.1))

  listed_skip_suc : flag (suc n) ≡ false → ListedSoFar flag places (suc n)
  listed_skip_suc unset =
      let none : one_if (flag (suc n)) ≡ 0 = ap one_if unset in
      let count : length places ≡ count_places flag n = listed.count in
      record {
        same = λ i below. elim (cases_eq i n) [
          | inl at ↦ subst (λ (k : ℕ). has places (suc k) ≡ flag (suc k)) (sym at) (absent ∙ sym unset)
          | inr other ↦ listed.same i (elim (cases_lt i n) [ inl lt ↦ lt | inr le ↦ absurd (other (omega arith)) ])
        ];
        range = λ place there. (let range = listed.range place there in (range.0, omega (arith, range.1)));
        count = omega arith;
        ascending = listed.ascending;
      }

  after_all : (i : ℕ) → i < length places → get_or places i 0 < suc n
  after_all i below = let range = listed.range (get_or places i 0) (has-at places i below) in omega (arith, range.1)

  listed_push_suc : flag (suc n) ≡ true → ListedSoFar flag (places ++ suc n ∷ []) (suc n)
  listed_push_suc set =
      let one : one_if (flag (suc n)) ≡ 1 = ap one_if set in
      let count : length places ≡ count_places flag n = listed.count in
      record {
        same = λ i below. has-append places (suc n) (suc i) ∙ (elim (cases_eq i n) [
          | inl at ↦ or_right (has places (suc i)) (eqb (suc i) (suc n)) (eq-eqb (suc i) (suc n) (ap suc at)) ∙ sym (subst (λ (k : ℕ). flag (suc k) ≡ true) (sym at) set)
          | inr other ↦
              let before : i < n = elim (cases_lt i n) [ inl lt ↦ lt | inr le ↦ absurd (other (omega arith)) ] in
              or_skip (has places (suc i)) (eqb (suc i) (suc n)) (ne_eqb _ _ (λ e. omega arith)) ∙ listed.same i before
        ]);
        range = λ place there. elim (or_cases (has places place) (eqb place (suc n)) (sym (has-append places (suc n) place) ∙ there)) [
          | inl before ↦ (let range = listed.range place before in (range.0, omega (arith, range.1)))
          | inr here ↦ (let at : place ≡ suc n = eqb-true place (suc n) here in (omega arith, omega arith))
        ];
        count = length-append places (suc n ∷ []) ∙ omega arith;
        ascending = λ i j d before within.
            let length_is : length (places ++ suc n ∷ []) ≡ length places + 1 = length-append places (suc n ∷ []) in
            let first : get_or (places ++ suc n ∷ []) i d ≡ get_or places i d = get_or_append_left places (suc n ∷ []) d i (omega arith) in
            elim (cases_lt j (length places)) [
              | inl old ↦
                  let second : get_or (places ++ suc n ∷ []) j d ≡ get_or places j d = get_or_append_left places (suc n ∷ []) d j old in
                  rw (first, second) (listed.ascending i j d before old)
              | inr new ↦
                  let at : j ≡ length places = omega arith in
                  let none : length places - length places ≡ 0 = omega arith in
                  let second : get_or (places ++ suc n ∷ []) j d ≡ suc n = rw at (get_or-append_right places (suc n ∷ []) (length places) (length places) d refl (omega arith) ∙ rw none refl) in
                  rw (first, second, default_any places i d 0 (omega arith)) (after_all i (omega arith))
            ];
      }

  pub listed_skip : flag (suc n) ≡ false → ListedSoFar flag places (n + 1)
  listed_skip unset = subst (λ (m : ℕ). ListedSoFar flag places m) (omega arith) (listed_skip_suc unset)

  pub listed_push : flag (suc n) ≡ true → ListedSoFar flag (places ++ (n + 1) ∷ []) (n + 1)
  listed_push set = subst (λ (m : ℕ). ListedSoFar flag (places ++ m ∷ []) m) (omega arith) (listed_push_suc set)
