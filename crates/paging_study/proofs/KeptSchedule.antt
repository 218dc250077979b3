-- The kept intervals make a schedule, whose hits are as many as they are.
use Rattle.std.proofs.Common.{◌≡◌, ◌≢◌, ℕ, suc, zero, ◌+◌, ◌-◌, ◌<◌, ◌≤◌, Bool, true, false, List, length, ap, sym, ◌∙◌, refl, subst, inl, inr, arith, leb, not}
use Rattle.std.proofs.lemmas.Bool.{cases_lt, cases_eq, cases_Bool, false_from_ne_true, both_ways, eqb-true, eq-eqb, or_cases, or_left, or_right, and_parts, and_from, leb-true, le-leb, not-true, not_from_false, not_from_true}
use Rattle.paging_study.specs.Places.{one_if, count_places, has, pages_of}
use Rattle.paging_study.specs.Intervals.{begins, is_inside}
use Rattle.paging_study.specs.Schedule.{IsSchedule, faults_of, is_kept_inside, sets_of}
use Rattle.paging_study.specs.Least.{is_dropped, AreDrops, AreKept}
use Rattle.paging_study.proofs.Counts.{count-le}
use Rattle.paging_study.proofs.Begins.{begins-lt, begins-page, begins-ge, inside, inside_from}
use Rattle.paging_study.proofs.Rule.{stays, is_left, dropped_at, left_bound, kept_earlier}

length-pages_of : (page : ℕ → ℕ) (test : ℕ → Bool) (n : ℕ) → length (pages_of page test n) ≡ count_places test n
length-pages_of page test zero = refl
length-pages_of page test (suc n) = elim (cases_Bool (test (suc n))) [
  | inl passes ↦ rw passes (omega (arith, length-pages_of page test n))
  | inr fails ↦ rw fails (omega (arith, length-pages_of page test n))
]

record HasPlace (page : ℕ → ℕ) (test : ℕ → Bool) (n y : ℕ) : Type 0 where
  at : ℕ
  below : at < n
  passes : test (suc at) ≡ true
  is : page (suc at) ≡ y

has-pages_of-some : (page : ℕ → ℕ) (test : ℕ → Bool) (n y : ℕ) → has (pages_of page test n) y ≡ true → HasPlace page test n y
has-pages_of-some page test zero y there = cc
has-pages_of-some page test (suc n) y there = elim (cases_Bool (test (suc n))) [
  | inr fails ↦
      let found = has-pages_of-some page test n y (rw fails at there) in
      record { at = found.at; below = omega (arith, found.below); passes = found.passes; is = found.is }
  | inl passes ↦ elim (or_cases _ _ (rw passes at there)) [
    | inl here ↦ record { at = n; below = omega arith; passes = passes; is = sym (eqb-true _ _ here) }
    | inr before ↦
        let found = has-pages_of-some page test n y before in
        record { at = found.at; below = omega (arith, found.below); passes = found.passes; is = found.is }
  ]
]

has-pages_of : (page : ℕ → ℕ) (test : ℕ → Bool) (n i : ℕ) → i < n → test (suc i) ≡ true → has (pages_of page test n) (page (suc i)) ≡ true
has-pages_of page test zero i below passes = absurd (omega arith)
has-pages_of page test (suc n) i below passes = elim (cases_eq i n) [
  | inl same ↦
      let passes' : test (suc n) ≡ true = subst (λ (j : ℕ). test (suc j) ≡ true) same passes in
      let same' : page (suc i) ≡ page (suc n) = ap (λ j. page (suc j)) same in
      rw passes' (or_left _ _ (eq-eqb _ _ same'))
  | inr other ↦
      let earlier : i < n = elim (cases_lt i n) [ inl lt ↦ lt | inr le ↦ absurd (other (omega arith)) ] in
      let before = has-pages_of page test n i earlier passes in
      elim (cases_Bool (test (suc n))) [
        | inl here ↦ rw here (or_right _ _ before)
        | inr none ↦ rw none before
      ]
]

module _ (page drop : ℕ → ℕ) (places room : ℕ) (drops : AreDrops page drop places room) (kept : ℕ → Bool) (rule : AreKept page drop places kept) where
  abbrev sets : ℕ → List ℕ
  sets n = sets_of page kept places n

  few : (n : ℕ) → n < places → length (sets (suc n)) ≤ room + 1
  few n below =
      let within : count_places (is_kept_inside page kept (suc n)) places ≤ count_places (is_left page drop places room drops n) places =
      count-le (is_kept_inside page kept (suc n)) (is_left page drop places room drops n) places (λ i i_below is.
      let parts = and_parts (is_inside page (suc n) (suc i)) (kept (begins page (suc i))) is in
      let some : 1 ≤ begins page (suc i) = (inside page (suc n) (suc i) parts.0).interval in
      let alive : is_dropped drop places (suc i) ≡ false = not-true _ (sym (rule.interval i i_below some) ∙ parts.1) in
      and_from _ _ parts.0 (not_from_false _ (kept_earlier page drop places room drops (suc n) places (suc i) (omega arith) alive))) in
      omega (arith, length-pages_of page (is_kept_inside page kept (suc n)) places, left_bound page drop places room drops n below)

  -- a page that is kept with the place inside was there one place before
  demanded_at : (n i : ℕ) → suc n < places → i < places → is_kept_inside page kept (suc (suc n)) (suc i) ≡ true → has (sets (suc n)) (page (suc i)) ≡ true
  demanded_at n i below i_below is =
      let parts = and_parts (is_inside page (suc (suc n)) (suc i)) (kept (begins page (suc i))) is in
      let in_it = inside page (suc (suc n)) (suc i) parts.0 in
      elim (cases_eq (begins page (suc i)) (suc n)) [
        | inl here ↦
            let same : page (suc n) ≡ page (suc i) = sym (ap page here) ∙ begins-page page i in_it.interval in
            or_left _ _ (eq-eqb _ _ (sym same))
        | inr other ↦
            let first : begins page (suc i) < suc n = elim (cases_lt (begins page (suc i)) (suc n)) [ inl lt ↦ lt | inr le ↦ absurd (other (omega (arith, in_it.first))) ] in
            or_right _ _ (has-pages_of page (is_kept_inside page kept (suc n)) places i i_below
            (and_from (is_inside page (suc n) (suc i)) (kept (begins page (suc i))) (inside_from page (suc n) (suc i) in_it.interval first (omega (arith, in_it.past))) parts.1))
      ]

  demanded_inside : (n i : ℕ) → n < places → i < places → is_kept_inside page kept (suc n) (suc i) ≡ true → has (sets n) (page (suc i)) ≡ true
  demanded_inside zero i below i_below is =
      let parts = and_parts (is_inside page 1 (suc i)) (kept (begins page (suc i))) is in
      let in_it = inside page 1 (suc i) parts.0 in
      absurd (omega (arith, in_it.interval, in_it.first))
  demanded_inside (suc n) i below i_below is = demanded_at n i below i_below is

  demanded : (n y : ℕ) → n < places → has (sets (suc n)) y ≡ true → y ≢ page (suc n) → has (sets n) y ≡ true
  demanded n y below there apart = elim (or_cases _ _ there) [
    | inl here ↦ absurd (apart (eqb-true _ _ here))
    | inr inside_it ↦
        let found = has-pages_of-some page (is_kept_inside page kept (suc n)) places y inside_it in
        subst (λ (z : ℕ). has (sets n) z ≡ true) found.is (demanded_inside n found.at below found.below found.passes)
  ]

  pub schedule : IsSchedule page places (room + 1) (λ n. sets_of page kept places n)
  schedule = record {
    empty = refl;
    few = few;
    referenced = λ n below. or_left _ _ (eq-eqb (page (suc n)) (page (suc n)) refl);
    demanded = demanded;
  }

  kept_hits : (n : ℕ) → n < places → stays page drop places room drops (suc n) ≡ true → has (sets n) (page (suc n)) ≡ true
  kept_hits zero below is =
      let parts = and_parts (leb 1 (begins page 1)) (not (is_dropped drop places 1)) is in
      absurd (omega (arith, begins-lt page 0, leb-true 1 (begins page 1) parts.0))
  kept_hits (suc n) below is =
      let parts = and_parts _ _ is in
      let some : 1 ≤ begins page (suc (suc n)) = leb-true _ _ parts.0 in
      elim (cases_eq (begins page (suc (suc n))) (suc n)) [
        | inl here ↦
            let same : page (suc n) ≡ page (suc (suc n)) = sym (ap page here) ∙ begins-page page (suc n) some in
            or_left _ _ (eq-eqb _ _ (sym same))
        | inr other ↦
            let first : begins page (suc (suc n)) < suc n = elim (cases_lt (begins page (suc (suc n))) (suc n)) [ inl lt ↦ lt | inr le ↦ absurd (other (omega (arith, begins-lt page (suc n)))) ] in
            or_right _ _ (has-pages_of page (is_kept_inside page kept (suc n)) places (suc n) below
            (and_from (is_inside page (suc n) (suc (suc n))) (kept (begins page (suc (suc n)))) (inside_from page (suc n) (suc (suc n)) some first (omega arith)) (rule.interval (suc n) below some ∙ parts.1)))
      ]

  -- neighbours are never dropped: no place is inside
  neighbour : (n : ℕ) → n < places → 1 ≤ n → begins page (suc n) ≡ n → stays page drop places room drops (suc n) ≡ true
  neighbour n below some is = and_from _ _ (le-leb _ _ (omega arith)) (not_from_false _ (false_from_ne_true _ (λ dropped.
      let d = dropped_at page drop places room drops (suc n) (omega arith) dropped in
      let in_it = d.drops_there.inside in
      let first : begins page (suc n) < suc d.at = subst (λ (end : ℕ). begins page end < suc d.at) d.is in_it.first in
      let past : suc d.at < suc n = subst (λ (end : ℕ). suc d.at < end) d.is in_it.past in
      omega arith)))

  hits_kept : (n : ℕ) → n < places → has (sets n) (page (suc n)) ≡ true → stays page drop places room drops (suc n) ≡ true
  hits_kept zero below there = cc
  hits_kept (suc n) below there = elim (or_cases _ _ there) [
    | inl here ↦
        let same : page (suc (suc n)) ≡ page (suc n) = eqb-true _ _ here in
        neighbour (suc n) below (omega arith) (omega (arith, begins-lt page (suc n), begins-ge page (suc n) n (omega arith) (sym same)))
    | inr inside_it ↦
        let found = has-pages_of-some page (is_kept_inside page kept (suc n)) places (page (suc (suc n))) inside_it in
        let parts = and_parts (is_inside page (suc n) (suc found.at)) (kept (begins page (suc found.at))) found.passes in
        let in_it = inside page (suc n) (suc found.at) parts.0 in
        let stays_there : stays page drop places room drops (suc found.at) ≡ true =
        and_from _ _ (le-leb _ _ in_it.interval) (sym (rule.interval found.at found.below in_it.interval) ∙ parts.1) in
        let past : suc n < suc found.at = in_it.past in
        let same : found.at ≡ suc n = elim (cases_lt (suc n) found.at) [
          | inr le ↦ omega arith
          | inl lt ↦ absurd (omega (arith, in_it.first, begins-ge page found.at (suc n) lt (sym found.is)))
        ] in
        subst (λ (i : ℕ). stays page drop places room drops (suc i) ≡ true) same stays_there
  ]

  faults_at : (n : ℕ) → n ≤ places → faults_of page sets n + count_places (stays page drop places room drops) n ≡ n
  faults_at zero within = refl
  faults_at (suc n) within =
      let before : suc n - 1 ≡ n = omega arith in
      let rest : faults_of page sets n + count_places (stays page drop places room drops) n ≡ n = faults_at n (omega arith) in
      elim (cases_Bool (stays page drop places room drops (suc n))) [
        | inl is ↦
            let hit : not (has (sets (suc n - 1)) (page (suc n))) ≡ false = rw before (not_from_true _ (kept_hits n (omega arith) is)) in
            let none : one_if (not (has (sets (suc n - 1)) (page (suc n)))) ≡ 0 = ap one_if hit in
            let one : one_if (stays page drop places room drops (suc n)) ≡ 1 = ap one_if is in
            omega arith
        | inr gone ↦
            let miss : not (has (sets (suc n - 1)) (page (suc n))) ≡ true = rw before (not_from_false _ (false_from_ne_true _ (λ there. both_ways _ gone (hits_kept n (omega arith) there)))) in
            let one : one_if (not (has (sets (suc n - 1)) (page (suc n)))) ≡ 1 = ap one_if miss in
            let none : one_if (stays page drop places room drops (suc n)) ≡ 0 = ap one_if gone in
            omega arith
      ]

  pub faults-stays : faults_of page (λ n. sets_of page kept places n) places + count_places (stays page drop places room drops) places ≡ places
  faults-stays = faults_at places (omega arith)
