-- Cuts bound the hits of every schedule: at most k - 1 hits for each cut, and those with no cut
-- inside.
use Rattle.std.proofs.Common.{◌≡◌, ◌≢◌, ℕ, suc, zero, ◌+◌, ◌-◌, ◌*◌, ◌<◌, ◌≤◌, Bool, true, false, cond, List, [], ◌∷◌, length, ap, sym, ◌∙◌, refl, subst, inl, inr, arith, eqb}
use Rattle.std.proofs.lemmas.Bool.{cases_lt, cases_Bool, eqb-true, eqb-false, eq-eqb, ne_eqb, le-leb, and_from}
use Rattle.paging_study.specs.Places.{one_if, count_places, last_place, has}
use Rattle.paging_study.specs.Intervals.{is_uncut}
use Rattle.paging_study.specs.Schedule.{IsSchedule, faults_of}
use Rattle.paging_study.proofs.Counts.{last_place-le}

-- the list without a page
abbrev pub without : ℕ → List ℕ → List ℕ
without x [] = []
without x (y ∷ ys) = cond (eqb x y) (without x ys) (y ∷ without x ys)

length-without : (x : ℕ) (ys : List ℕ) → length (without x ys) ≤ length ys
length-without x [] = omega arith
length-without x (y ∷ ys) = elim (cases_Bool (eqb x y)) [
  | inl same ↦ rw same (omega (arith, length-without x ys))
  | inr other ↦ rw other (omega (arith, length-without x ys))
]

-- a page that was in the list leaves at least one fewer
length-without-has : (x : ℕ) (ys : List ℕ) → has ys x ≡ true → length (without x ys) + 1 ≤ length ys
length-without-has x [] there = cc
length-without-has x (y ∷ ys) there = elim (cases_Bool (eqb x y)) [
  | inl same ↦ rw same (omega (arith, length-without x ys))
  | inr other ↦
      let later : has ys x ≡ true = rw other at there in
      rw other (omega (arith, length-without-has x ys later))
]

has-without : (x z : ℕ) (ys : List ℕ) → has ys z ≡ true → z ≢ x → has (without x ys) z ≡ true
has-without x z [] there apart = there
has-without x z (y ∷ ys) there apart = elim (cases_Bool (eqb x y)) [
  | inl same ↦
      let other : eqb z y ≡ false = ne_eqb z y (λ e. apart (e ∙ sym (eqb-true x y same))) in
      rw same (has-without x z ys (rw other at there) apart)
  | inr other ↦ rw other (elim (cases_Bool (eqb z y)) [
    | inl here ↦ rw here refl
    | inr later ↦ rw later (has-without x z ys (rw later at there) apart)
  ])
]

module _ (page : ℕ → ℕ) (cut : ℕ → Bool) (places frames : ℕ) (sets : ℕ → List ℕ) (schedule : IsSchedule page places frames sets) where
  -- the last place up to n with the page
  abbrev last_of : ℕ → ℕ → ℕ
  last_of y n = last_place (λ i. eqb (page i) y) n

  abbrev is_hit : ℕ → Bool
  is_hit n = has (sets (n - 1)) (page n)

  -- what has a frame was referenced
  referenced_before : (n y : ℕ) → n ≤ places → has (sets n) y ≡ true → 1 ≤ last_of y n
  referenced_before zero y within there = (let none : has [] y ≡ true = subst (λ (s : List ℕ). has s y ≡ true) schedule.empty there in cc)
  referenced_before (suc n) y within there = elim (cases_Bool (eqb (page (suc n)) y)) [
    | inl same ↦ rw same (omega arith)
    | inr other ↦ rw other (referenced_before n y (omega arith) (schedule.demanded n y (omega arith) there (λ e. eqb-false _ _ other (sym e))))
  ]

  -- what the hits so far leave: the pages not referenced since the last cut
  record Bounded (n : ℕ) : Type 0 where
    left : List ℕ
    few : count_places is_hit n + length left ≤ (frames - 1) * count_places cut n + count_places (is_uncut page cut) n
    all : (y : ℕ) → has (sets n) y ≡ true → last_of y n < last_place cut n → has left y ≡ true

  -- a hit, with or without a cut inside its interval
  counted : (n : ℕ) → n < places → (b : Bounded n) → count_places is_hit (suc n) + length (without (page (suc n)) b.left) ≤ (frames - 1) * count_places cut n + count_places (is_uncut page cut) (suc n)
  counted n within b =
      let before : suc n - 1 ≡ n = omega arith in
      let few : count_places is_hit n + length b.left ≤ (frames - 1) * count_places cut n + count_places (is_uncut page cut) n = b.few in
      elim (cases_Bool (has (sets n) (page (suc n)))) [
        | inr miss ↦
            let none : one_if (is_hit (suc n)) ≡ 0 = rw (before, miss) refl in
            omega (arith, length-without (page (suc n)) b.left)
        | inl hit ↦
            let one : one_if (is_hit (suc n)) ≡ 1 = rw (before, hit) refl in
            elim (cases_lt (last_of (page (suc n)) n) (last_place cut n)) [
              | inl older ↦
                  let there : has b.left (page (suc n)) ≡ true = b.all (page (suc n)) hit older in
                  omega (arith, length-without-has (page (suc n)) b.left there)
              | inr newer ↦
                  let uncut : is_uncut page cut (suc n) ≡ true = and_from _ _ (le-leb 1 _ (referenced_before n (page (suc n)) (omega arith) hit)) (rw before (le-leb _ _ newer)) in
                  let uncut' : one_if (is_uncut page cut (suc n)) ≡ 1 = ap one_if uncut in
                  omega (arith, length-without (page (suc n)) b.left)
            ]
      ]

  -- at a cut, all pages with a frame but the one that is referenced are left
  at_cut : (n : ℕ) → n < places → cut (suc n) ≡ true → Bounded n → Bounded (suc n)
  at_cut n within here b =
      let product : (frames - 1) * (count_places cut n + 1) ≡ (frames - 1) * count_places cut n + (frames - 1) = grind arith in
      let one : one_if (cut (suc n)) ≡ 1 = ap one_if here in
      let more : count_places cut (suc n) ≡ count_places cut n + 1 = omega arith in
      let product' : (frames - 1) * count_places cut (suc n) ≡ (frames - 1) * count_places cut n + (frames - 1) = rw more product in
      record {
        left = without (page (suc n)) (sets (suc n));
        few = omega (arith, counted n within b, length-without-has (page (suc n)) (sets (suc n)) (schedule.referenced n within), schedule.few n within);
        all = λ y there since. has-without (page (suc n)) y (sets (suc n)) there
            (λ e. let newest : last_of y (suc n) ≡ suc n = rw (eq-eqb _ _ (sym e)) refl in omega (arith, last_place-le cut (suc n)));
      }

  between_cuts : (n : ℕ) → n < places → cut (suc n) ≡ false → Bounded n → Bounded (suc n)
  between_cuts n within here b =
      let one : one_if (cut (suc n)) ≡ 0 = ap one_if here in
      let more : count_places cut (suc n) ≡ count_places cut n = omega arith in
      let product' : (frames - 1) * count_places cut (suc n) ≡ (frames - 1) * count_places cut n = ap (λ c. (frames - 1) * c) more in
      let last_cut : last_place cut (suc n) ≡ last_place cut n = rw here refl in
      record {
        left = without (page (suc n)) b.left;
        few = omega (arith, counted n within b);
        all = λ y there since.
            let apart : y ≢ page (suc n) = λ e. (let newest : last_of y (suc n) ≡ suc n = rw (eq-eqb _ _ (sym e)) refl in omega (arith, last_place-le cut (suc n), last_place-le cut n)) in
            let older : last_of y (suc n) ≡ last_of y n = rw (ne_eqb (page (suc n)) y (λ e. apart (sym e))) refl in
            has-without (page (suc n)) y b.left (b.all y (schedule.demanded n y within there apart) (omega arith)) apart;
      }

  bounded : (n : ℕ) → n ≤ places → Bounded n
  bounded zero within = record { left = []; few = omega arith; all = λ y there since. absurd (omega arith) }
  bounded (suc n) within = elim (cases_Bool (cut (suc n))) [
    | inl here ↦ at_cut n (omega arith) here (bounded n (omega arith))
    | inr none ↦ between_cuts n (omega arith) none (bounded n (omega arith))
  ]

  hits-faults : (n : ℕ) → count_places is_hit n + faults_of page sets n ≡ n
  hits-faults zero = refl
  hits-faults (suc n) = elim (cases_Bool (is_hit (suc n))) [
    | inl hit ↦ rw hit (omega (arith, hits-faults n))
    | inr miss ↦ rw miss (omega (arith, hits-faults n))
  ]

  pub least_faults : places ≤ (frames - 1) * count_places cut places + count_places (is_uncut page cut) places + faults_of page sets places
  least_faults =
      let b = bounded places (omega arith) in
      omega (arith, b.few, hits-faults places)
