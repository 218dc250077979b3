-- The places that are the last with their page, and the distances that they give.
use Rattle.std.proofs.Common.{◌≡◌, ◌≢◌, ℕ, suc, zero, ◌+◌, ◌-◌, ◌<◌, ◌≤◌, Bool, true, false, List, [], ◌∷◌, ◌++◌, length, get_or, ap, sym, ◌∙◌, refl, subst, inl, inr, arith, eqb, leb, ltb, ◌&&◌, ◌||◌, not}
use Rattle.std.proofs.lemmas.Bool.{cases_lt, cases_eq, cases_Bool, eqb-true, eqb-false, eq-eqb, ne_eqb, and_left, and_right, or_right, lt-ltb, le-ltb, lt-leb, not_from_true}
use Rattle.std.proofs.lemmas.List.{get_or_append_left, get_or-append_right, get_or_past}
use Rattle.paging_study.specs.Places.{one_if, flag_at, count_places, last_place}
use Rattle.paging_study.specs.Intervals.{begins}
use Rattle.paging_study.specs.Recency.{is_last, distance, is_hit, is_at_distance}
use Rattle.paging_study.proofs.Counts.{count_same, count_none, last_place-le}
use Rattle.paging_study.proofs.Begins.{begins-page}

pub count_places-le : (f : ℕ → Bool) (n : ℕ) → count_places f n ≤ n
count_places-le f zero = omega arith
count_places-le f (suc n) = elim (cases_Bool (f (suc n))) [
  | inl passes ↦ rw passes (omega (arith, count_places-le f n))
  | inr fails ↦ rw fails (omega (arith, count_places-le f n))
]

and_true : (a : Bool) → (a && true) ≡ a
and_true true = refl
and_true false = refl

or_false : (a : Bool) → (a || false) ≡ a
or_false true = refl
or_false false = refl

one_of_two : (a b : ℕ) → (eqb a b && not (eqb b a)) ≡ false
one_of_two a b = elim (cases_eq a b) [
  | inl same ↦ and_right _ _ (not_from_true _ (eq-eqb b a (sym same)))
  | inr other ↦ and_left _ _ (ne_eqb a b other)
]

tells : (some : Bool) (x d : ℕ) → one_if (not (some && ltb x (suc d))) + one_if (some && eqb x d) ≡ one_if (not (some && ltb x d))
tells false x d = refl
tells true x d = elim (cases_eq x d) [
  | inl same ↦ rw (lt-ltb x (suc d) (omega arith), eq-eqb x d same, le-ltb x d (omega arith)) refl
  | inr other ↦ elim (cases_lt x d) [
    | inl lt ↦ rw (lt-ltb x (suc d) (omega arith), ne_eqb x d other, lt-ltb x d lt) refl
    | inr le ↦
        let past : d < x = elim (cases_lt d x) [ inl lt ↦ lt | inr le' ↦ absurd (other (omega arith)) ] in
        rw (le-ltb x (suc d) (omega arith), ne_eqb x d other, le-ltb x d le) refl
  ]
]

-- the place comes last with its page at once, and the one before it with this page no longer does
module _ (page : ℕ → ℕ) (n : ℕ) where
  is_last_here : is_last page (suc n) (suc n) ≡ true
  is_last_here = rw (eq-eqb (page (suc n)) (page (suc n)) refl) (eq-eqb (suc n) (suc n) refl)

  is_last_other : (t : ℕ) → suc t ≢ suc n → is_last page (suc n) (suc t) ≡ (is_last page n (suc t) && not (eqb (suc t) (begins page (suc n))))
  is_last_other t other = elim (cases_Bool (eqb (page (suc n)) (page (suc t)))) [
    | inl same ↦
        let same' : page (suc n) ≡ page (suc t) = eqb-true _ _ same in
        let last_same : last_place (λ i. eqb (page i) (page (suc t))) n ≡ begins page (suc n) = ap (λ y. last_place (λ i. eqb (page i) y) n) (sym same') in
        rw (same, ne_eqb (suc n) (suc t) (λ e. other (sym e)), last_same) (sym (one_of_two (begins page (suc n)) (suc t)))
    | inr differ ↦
        let apart : eqb (suc t) (begins page (suc n)) ≡ false = ne_eqb _ _ (λ e.
        let page_is : page (begins page (suc n)) ≡ page (suc n) = begins-page page n (omega arith) in
        eqb-false _ _ differ (sym page_is ∙ ap page (sym e))) in
        rw (differ, apart) (sym (and_true (eqb (last_place (λ i. eqb (page i) (page (suc t))) n) (suc t))))
  ]

  pub last_step : (flag flag' : ℕ → Bool) (first i : ℕ) (places : ℕ) → first ≡ begins page (suc n) → i ≡ n → ((t : ℕ) → t < places → flag t ≡ is_last page n (suc t))
      → ((t : ℕ) → t < places → flag' t ≡ ((flag t && not (eqb (suc t) first)) || eqb t i)) → (t : ℕ) → t < places → flag' t ≡ is_last page (n + 1) (suc t)
  last_step flag flag' first i places first_is i_is was is t below =
      let next : n + 1 ≡ suc n = omega arith in
      rw next (elim (cases_eq t n) [
        | inl at ↦ is t below ∙ (or_right _ _ (eq-eqb t i (at ∙ sym i_is)) ∙ sym (subst (λ (k : ℕ). is_last page (suc n) (suc k) ≡ true) (sym at) is_last_here))
        | inr other ↦
            let no : eqb t i ≡ false = ne_eqb t i (λ e. other (e ∙ i_is)) in
            is t below ∙ (rw (no, was t below, first_is) (or_false (is_last page n (suc t) && not (eqb (suc t) (begins page (suc n))))) ∙ sym (is_last_other t (λ e. other (omega arith))))
      ])

-- the references with fewer distinct others since are hits
module _ (page : ℕ → ℕ) where
  hit_more : (d n : ℕ) → one_if (not (is_hit page (suc d) n)) + one_if (is_at_distance page d n) ≡ one_if (not (is_hit page d n))
  hit_more d n = tells (leb 1 (begins page n)) (distance page n) d

  pub fewer_faults : (d n : ℕ) → count_places (λ k. not (is_hit page (suc d) k)) n + count_places (is_at_distance page d) n ≡ count_places (λ k. not (is_hit page d k)) n
  fewer_faults d zero = refl
  fewer_faults d (suc n) = omega (arith, fewer_faults d n, hit_more d (suc n))

  pub all_faults : (n : ℕ) → count_places (λ k. not (is_hit page 0 k)) n ≡ n
  all_faults zero = refl
  all_faults (suc n) =
      let none : is_hit page 0 (suc n) ≡ false = and_right _ _ (le-ltb (distance page (suc n)) 0 (omega arith)) in
      let one : one_if (not (is_hit page 0 (suc n))) ≡ 1 = ap (λ (b : Bool). one_if (not b)) none in
      omega (arith, all_faults n)

-- nothing up to the first place is after it
pub none_after : (first n : ℕ) (flag : ℕ → Bool) → n ≤ first → count_places (λ t. ltb first t && flag t) n ≡ 0
none_after first n flag within = count_none (λ t. ltb first t && flag t) n (λ i below. and_left _ _ (le-ltb first (suc i) (omega arith)))

-- no place after the first n is the last of them with its page
pub late_not_last : (page : ℕ → ℕ) (n t : ℕ) → n ≤ t → is_last page n (suc t) ≡ false
late_not_last page n t late = ne_eqb _ _ (λ e. omega (arith, e, last_place-le (λ i. eqb (page i) (page (suc t))) n))

-- so their flags are not set
pub none_late : (page : ℕ → ℕ) (flags : List Bool) (n : ℕ) → ((t : ℕ) → t < length flags → get_or flags t false ≡ is_last page n (suc t)) → (t : ℕ) → n ≤ t → flag_at flags (suc t) ≡ false
none_late page flags n last t late =
    let at : suc t - 1 ≡ t = omega arith in
    ap (λ (k : ℕ). get_or flags k false) at ∙ (elim (cases_lt t (length flags)) [
      | inl within ↦ last t within ∙ late_not_last page n t late
      | inr past ↦ get_or_past flags t false past
    ])

-- the flags up to the place give its distance
pub between_is : (page : ℕ → ℕ) (flags : List Bool) (n first between : ℕ) → first ≡ begins page (suc n) → n ≤ length flags
    → ((t : ℕ) → t < length flags → get_or flags t false ≡ is_last page n (suc t))
    → between ≡ count_places (λ t. ltb first t && flag_at flags t) n → between ≡ distance page (suc n)
between_is page flags n first between first_is within last is =
    let before : suc n - 1 ≡ n = omega arith in
    let same : count_places (λ t. ltb first t && flag_at flags t) n ≡ count_places (λ t. ltb (begins page (suc n)) t && is_last page n t) n =
    count_same (λ t. ltb first t && flag_at flags t) (λ t. ltb (begins page (suc n)) t && is_last page n t) n (λ i below.
    let at : suc i - 1 ≡ i = omega arith in
    let flag : flag_at flags (suc i) ≡ is_last page n (suc i) = ap (λ (k : ℕ). get_or flags k false) at ∙ last i (omega arith) in
    rw (first_is, flag) refl) in
    is ∙ (same ∙ ap (λ (k : ℕ). count_places (λ t. ltb (begins page (suc n)) t && is_last page k t) k) (sym before))

pub hit_step : (page : ℕ → ℕ) (n first between d h h' : ℕ) → first ≡ begins page (suc n) → (1 ≤ first → between ≡ distance page (suc n))
    → h ≡ count_places (is_at_distance page d) n → h' ≡ h + one_if (leb 1 first && eqb between d) → h' ≡ count_places (is_at_distance page d) (n + 1)
hit_step page n first between d h h' first_is is was now =
    let next : n + 1 ≡ suc n = omega arith in
    let test : (leb 1 first && eqb between d) ≡ is_at_distance page d (suc n) = elim (cases_lt 0 first) [
      | inl some ↦ rw (first_is, is some) refl
      | inr none ↦ and_left _ _ (lt-leb 1 first (omega arith)) ∙ sym (and_left _ _ (lt-leb 1 (begins page (suc n)) (omega arith)))
    ] in
    let one : one_if (leb 1 first && eqb between d) ≡ one_if (is_at_distance page d (suc n)) = ap one_if test in
    rw next (omega arith)

-- more frames, fewer faults
pub faults_step : (page : ℕ → ℕ) (m j left more : ℕ) → left ≡ count_places (λ n. not (is_hit page j n)) m → more ≡ count_places (is_at_distance page j) m
    → (more ≤ left) × (left - more ≡ count_places (λ n. not (is_hit page (suc j) n)) m)
faults_step page m j left more left_is more_is = (omega (arith, fewer_faults page j m), omega (arith, fewer_faults page j m))

-- a list of a function's values, and the next one
pub more_faults : (xs : List ℕ) (x j : ℕ) (f : ℕ → ℕ) → length xs ≡ j → ((k : ℕ) → k < j → get_or xs k 0 ≡ f k) → x ≡ f j → (k : ℕ) → k < suc j → get_or (xs ++ x ∷ []) k 0 ≡ f k
more_faults xs x j f len so_far here k below = elim (cases_eq k j) [
  | inl at ↦
      let none : length xs - length xs ≡ 0 = omega arith in
      rw (at, sym len) (get_or-append_right xs (x ∷ []) (length xs) (length xs) 0 refl (omega arith) ∙ (rw none refl ∙ (here ∙ ap f (sym len))))
  | inr other ↦
      let earlier : k < j = elim (cases_lt k j) [ inl lt ↦ lt | inr le ↦ absurd (other (omega arith)) ] in
      get_or_append_left xs (x ∷ []) 0 k (omega arith) ∙ so_far k earlier
]
