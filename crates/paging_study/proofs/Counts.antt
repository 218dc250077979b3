-- How many places pass a test, and the last that does.
use Rattle.std.proofs.Common.{◌≡◌, ◌≢◌, ℕ, suc, zero, ◌+◌, ◌<◌, ◌≤◌, Bool, true, false, ap, sym, refl, inl, inr, arith}
use Rattle.std.proofs.lemmas.Bool.{cases_lt, cases_eq, cases_Bool}
use Rattle.paging_study.specs.Places.{one_if, count_places, last_place}

-- tests that agree count alike
pub count_same : (f g : ℕ → Bool) (n : ℕ) → ((i : ℕ) → i < n → f (suc i) ≡ g (suc i)) → count_places f n ≡ count_places g n
count_same f g zero same = refl
count_same f g (suc n) same =
    let before : count_places f n ≡ count_places g n = count_same f g n (λ i below. same i (omega arith)) in
    let here : f (suc n) ≡ g (suc n) = same n (omega arith) in
    cc

-- tests that agree but at one place differ by it
pub count_but_one : (f g : ℕ → Bool) (n t : ℕ) → t < n → ((i : ℕ) → i < n → i ≢ t → f (suc i) ≡ g (suc i)) → count_places f n + one_if (g (suc t)) ≡ count_places g n + one_if (f (suc t))
count_but_one f g zero t below same = absurd (omega arith)
count_but_one f g (suc n) t below same = elim (cases_eq t n) [
  | inl last ↦
      let before : count_places f n ≡ count_places g n = count_same f g n (λ i below. same i (omega arith) (λ e. omega arith)) in
      rw last (omega arith)
  | inr other ↦
      let before : count_places f n + one_if (g (suc t)) ≡ count_places g n + one_if (f (suc t)) =
      count_but_one f g n t (elim (cases_lt t n) [ inl lt ↦ lt | inr le ↦ absurd (other (omega arith)) ]) (λ i below ne. same i (omega arith) ne) in
      let here : f (suc n) ≡ g (suc n) = same n (omega arith) (λ e. other (sym e)) in
      let here' : one_if (f (suc n)) ≡ one_if (g (suc n)) = ap one_if here in
      omega arith
]

-- none passes
pub count_none : (f : ℕ → Bool) (n : ℕ) → ((i : ℕ) → i < n → f (suc i) ≡ false) → count_places f n ≡ 0
count_none f zero none = refl
count_none f (suc n) none =
    let before : count_places f n ≡ 0 = count_none f n (λ i below. none i (omega arith)) in
    let here : one_if (f (suc n)) ≡ 0 = ap one_if (none n (omega arith)) in
    omega arith

-- what passes one test passes the other
pub count-le : (f g : ℕ → Bool) (n : ℕ) → ((i : ℕ) → i < n → f (suc i) ≡ true → g (suc i) ≡ true) → count_places f n ≤ count_places g n
count-le f g zero implies = omega arith
count-le f g (suc n) implies =
    let before : count_places f n ≤ count_places g n = count-le f g n (λ i below. implies i (omega arith)) in
    let here : one_if (f (suc n)) ≤ one_if (g (suc n)) = elim (cases_Bool (f (suc n))) [
      | inl passes ↦ rw (passes, implies n (omega arith) passes) (omega arith)
      | inr fails ↦ rw fails (omega arith)
    ] in
    omega arith

pub last_place-le : (f : ℕ → Bool) (n : ℕ) → last_place f n ≤ n
last_place-le f zero = omega arith
last_place-le f (suc n) = elim (cases_Bool (f (suc n))) [
  | inl passes ↦ rw passes (omega arith)
  | inr fails ↦ rw fails (omega (arith, last_place-le f n))
]

-- the last place that passes does
pub last_place-passes : (f : ℕ → Bool) (n : ℕ) → 1 ≤ last_place f n → f (last_place f n) ≡ true
last_place-passes f zero some = absurd (omega arith)
last_place-passes f (suc n) some = elim (cases_Bool (f (suc n))) [
  | inl passes ↦ rw (passes, passes) refl
  | inr fails ↦ let some' : 1 ≤ last_place f n = rw fails at some in rw fails (last_place-passes f n some')
]

-- none passes after the end
pub same_past : (flag : ℕ → Bool) (end more : ℕ) → ((n : ℕ) → end ≤ n → flag (suc n) ≡ false) → count_places flag (end + more) ≡ count_places flag end
same_past flag end zero none = ap (λ (k : ℕ). count_places flag k) (omega arith)
same_past flag end (suc more) none =
    let next : end + suc more ≡ suc (end + more) = omega arith in
    let step : count_places flag (end + suc more) ≡ count_places flag (end + more) + one_if (flag (suc (end + more))) = ap (λ (k : ℕ). count_places flag k) next in
    let here : one_if (flag (suc (end + more))) ≡ 0 = ap one_if (none (end + more) (omega arith)) in
    omega (arith, step, here, same_past flag end more none)
