-- One place of the forward pass: an interval may end there, one may be dropped, and one may begin.
use Rattle.std.proofs.Common.{◌≡◌, ◌≢◌, ℕ, suc, zero, ◌+◌, ◌-◌, ◌<◌, ◌≤◌, Bool, true, false, List, [], ◌∷◌, ◌++◌, length, length-append, get_or, ap, sym, ◌∙◌, refl, subst, inl, inr, arith, eqb, leb, ltb, ◌&&◌, ◌||◌, not}
use Rattle.std.specs.List.{All}
use Rattle.std.proofs.lemmas.Bool.{cases_lt, cases_eq, false_from_ne_true, both_ways, eqb-true, eq-eqb, ne_eqb, and_parts, and_from, and_left, and_right, or_from, or_right, le-leb, lt-leb, lt-ltb, le-ltb, not_from_false}
use Rattle.std.proofs.lemmas.List.{get_or_append_left, get_or-append_right, get_or_past}
use Rattle.paging_study.specs.Places.{one_if, page_at, count_places, any_place}
use Rattle.paging_study.specs.Intervals.{begins, is_inside}
use Rattle.paging_study.specs.Least.{is_dropped, is_open, IsDrop, AreEnds}
use Rattle.paging_study.specs.Open.{HoldsPlaces, LosesLast, is_pending}
use Rattle.paging_study.proofs.Counts.{count_same}
use Rattle.paging_study.proofs.Begins.{any_place-some, begins-lt, Inside, inside}
use Rattle.paging_study.proofs.Holds.{holds_same}

pub any_place_same : (f g : ℕ → Bool) (n : ℕ) → ((i : ℕ) → i < n → f (suc i) ≡ g (suc i)) → any_place f n ≡ any_place g n
any_place_same f g zero same = refl
any_place_same f g (suc n) same =
    let before : any_place f n ≡ any_place g n = any_place_same f g n (λ i below. same i (omega arith)) in
    let here : f (suc n) ≡ g (suc n) = same n (omega arith) in
    cc

both_true : (a d : Bool) → (((a && true) && d) && true) ≡ ((a && true) && d)
both_true true true = refl
both_true true false = refl
both_true false true = refl
both_true false false = refl

both_false : (a d x : Bool) → (((a && false) && d) && x) ≡ ((a && false) && d)
both_false true d x = refl
both_false false d x = refl

last_false : (a b d : Bool) → (((a && b) && d) && false) ≡ ((a && false) && d)
last_false true true true = refl
last_false true true false = refl
last_false true false d = refl
last_false false b d = refl

nor : (x a b : Bool) → ((x && not a) && not b) ≡ (x && not (a || b))
nor true true b = refl
nor true false b = refl
nor false a b = refl

or_none : (a : Bool) → (a || false) ≡ a
or_none true = refl
or_none false = refl

-- the drops that agree on the first places say the same of them
module _ (page drop drop' : ℕ → ℕ) (n : ℕ) (agree : (i : ℕ) → i < n → drop' (suc i) ≡ drop (suc i)) where
  pub dropped_same : (t end : ℕ) → t ≤ n → is_dropped drop' t end ≡ is_dropped drop t end
  dropped_same t end within = any_place_same (λ place. eqb (drop' place) end) (λ place. eqb (drop place) end) t (λ i below. ap (λ k. eqb k end) (agree i (omega arith)))

  pub open_same : (t end : ℕ) → t ≤ n → is_open page drop' t end ≡ is_open page drop t end
  open_same t end within = ap (λ (b : Bool). is_inside page (suc t) end && not b) (dropped_same t end within)

  pub drop_same : (places room t : ℕ) → t < n → IsDrop page drop places room t → IsDrop page drop' places room t
  drop_same places room t below d =
      let same : drop' (suc t) ≡ drop (suc t) = agree t below in
      let count : count_places (is_open page drop' t) places ≡ count_places (is_open page drop t) places =
      count_same (is_open page drop' t) (is_open page drop t) places (λ i _. open_same t (suc i) (omega arith)) in
      record {
        none = λ few. same ∙ d.none (omega arith);
        exists = omega (arith, d.exists);
        open_there = λ more. open_same t (drop' (suc t)) (omega arith) ∙ subst (λ (end : ℕ). is_open page drop t end ≡ true) (sym same) (d.open_there (omega arith));
        last = λ end end_below is more. omega (arith, d.last end end_below (sym (open_same t (suc end) (omega arith)) ∙ is) (omega arith));
      }

-- the state of the pass after n places
pub record Forward (page : ℕ → ℕ) (places room : ℕ) (open_ends : List Bool) (drops : List ℕ) (faults n : ℕ) : Type 0 where
  pub length_is : length drops ≡ n
  pub holds : HoldsPlaces open_ends (is_pending page (page_at drops) n) places
  pub rules : (t : ℕ) → t < n → IsDrop page (page_at drops) places room t
  pub counted : faults + count_places (λ end. leb 1 (begins page end) && not (is_dropped (page_at drops) n end)) n ≡ n

-- what is pending and does not end here is open
pub pending_open : (page drop : ℕ → ℕ) (n end : ℕ) → (is_pending page drop n end && not (eqb end (suc n))) ≡ is_open page drop n end
pending_open page drop n end =
    let began : Bool = leb 1 (begins page end) && ltb (begins page end) (suc n) in
    let alive : Bool = not (is_dropped drop n end) in
    elim (cases_lt n end) [
      | inr past ↦ rw (le-ltb n end past, le-ltb (suc n) end (omega arith)) (both_false began alive (not (eqb end (suc n))))
      | inl before ↦ elim (cases_eq end (suc n)) [
        | inl here ↦ rw (eq-eqb end (suc n) here, le-ltb (suc n) end (omega arith)) (last_false began (ltb n end) alive)
        | inr other ↦
            let later : suc n < end = elim (cases_lt (suc n) end) [ inl lt ↦ lt | inr le ↦ absurd (other (omega arith)) ] in
            rw (ne_eqb end (suc n) other, lt-ltb n end before, lt-ltb (suc n) end later) (both_true began alive)
      ]
    ]

-- what is dropped at a place has it inside
pub drop_inside : (page drop : ℕ → ℕ) (places room n : ℕ) → IsDrop page drop places room n → 1 ≤ drop (suc n) → Inside page (suc n) (drop (suc n))
drop_inside page drop places room n d some =
    let full : room < count_places (is_open page drop n) places = elim (cases_lt room (count_places (is_open page drop n) places)) [
      | inl lt ↦ lt
      | inr le ↦ absurd (omega (arith, d.none le))
    ] in
    inside page (suc n) (drop (suc n)) (and_parts (is_inside page (suc n) (drop (suc n))) (not (is_dropped drop n (drop (suc n)))) (d.open_there full)).0

eqb_swap : (a b : ℕ) → eqb a b ≡ eqb b a
eqb_swap a b = elim (cases_eq a b) [
  | inl same ↦ eq-eqb a b same ∙ sym (eq-eqb b a (sym same))
  | inr other ↦ ne_eqb a b other ∙ sym (ne_eqb b a (λ e. other (sym e)))
]

two_ors : {a b c d : Bool} → a ≡ c → b ≡ d → (a || b) ≡ (c || d)
two_ors p q = cc

last_step : {b b' x y : Bool} (a c : Bool) → b ≡ b' → x ≡ y → (((a && b) && c) && not x) ≡ (((a && b') && c) && not y)
last_step a c p q = cc

ands_true : (a d : Bool) → (a && not d) ≡ (((a && true) && true) && not d)
ands_true true d = refl
ands_true false d = refl

one_of : (b : Bool) → one_if (not b) + one_if b ≡ 1
one_of true = refl
one_of false = refl

none_began : (b : ℕ) → (leb 1 b && ltb b 1) ≡ false
none_began b = elim (cases_lt b 1) [
  | inl lt ↦ and_left _ _ (lt-leb 1 b (omega arith))
  | inr le ↦ and_right _ _ (le-ltb b 1 (omega arith))
]

-- one place: the interval that ends here leaves, d is dropped, and the one that begins here joins
module _ (page ends : ℕ → ℕ) (places room n : ℕ) (below : n < places) (are : AreEnds page places ends) (open_ends closed dropped begun : List Bool) (drops : List ℕ) (faults d : ℕ)
    (state : Forward page places room open_ends drops faults n)
    (loses : LosesLast closed dropped room d (λ end. is_pending page (page_at drops) n end && not (eqb end (suc n))) places)
    (joined : HoldsPlaces begun (λ end. ((is_pending page (page_at drops) n end && not (eqb end (suc n))) && not (eqb end d)) || eqb end (ends (suc n))) places) where
  abbrev drop : ℕ → ℕ
  drop = page_at drops

  abbrev drop' : ℕ → ℕ
  drop' = page_at (drops ++ d ∷ [])

  agree : (i : ℕ) → i < n → drop' (suc i) ≡ drop (suc i)
  agree i i_below = get_or_append_left drops (d ∷ []) 0 (suc i - 1) (omega (arith, state.length_is))

  here : drop' (suc n) ≡ d
  here =
      let at : suc n - 1 ≡ length drops = omega (arith, state.length_is) in
      let past : length drops - length drops ≡ 0 = omega arith in
      rw at (get_or-append_right drops (d ∷ []) (length drops) (length drops) 0 refl (omega arith) ∙ rw past refl)

  rule_here : IsDrop page drop' places room n
  rule_here =
      let count : count_places (is_open page drop' n) places ≡ count_places (λ end. is_pending page drop n end && not (eqb end (suc n))) places =
      count_same (is_open page drop' n) (λ end. is_pending page drop n end && not (eqb end (suc n))) places
      (λ i _. open_same page drop drop' n agree n (suc i) (omega arith) ∙ sym (pending_open page drop n (suc i))) in
      record {
        none = λ few. here ∙ loses.none (omega arith);
        exists = omega (arith, here, loses.exists);
        open_there = λ more. subst (λ (end : ℕ). is_open page drop' n end ≡ true) (sym here)
            (open_same page drop drop' n agree n d (omega arith) ∙ (sym (pending_open page drop n d) ∙ loses.was_there (omega arith)));
        last = λ end end_below is more. omega (
          arith,
          here,
          loses.last end end_below (pending_open page drop n (suc end) ∙ (sym (open_same page drop drop' n agree n (suc end) (omega arith)) ∙ is)) (omega arith),
        );
      }

  rules_all : (t : ℕ) → t < suc n → IsDrop page drop' places room t
  rules_all t t_below = elim (cases_eq t n) [
    | inl at ↦ subst (λ (k : ℕ). IsDrop page drop' places room k) (sym at) rule_here
    | inr other ↦
        let earlier : t < n = elim (cases_lt t n) [ inl lt ↦ lt | inr le ↦ absurd (other (omega arith)) ] in
        drop_same page drop drop' n agree places room t earlier (state.rules t earlier)
  ]

  -- what is dropped here began before, and ends after
  d_inside : 1 ≤ d → Inside page (suc n) d
  d_inside some = subst (λ (end : ℕ). Inside page (suc n) end) here (drop_inside page drop' places room n rule_here (omega (arith, here)))

  -- what begins here or later was not dropped before
  not_before : (end : ℕ) → 1 ≤ end → suc n ≤ begins page end → is_dropped drop n end ≡ false
  not_before end some begins_late = false_from_ne_true _ (λ is.
      let found = any_place-some (λ place. eqb (drop place) end) n is in
      let at : drop (suc found.0) ≡ end = eqb-true _ _ found.2 in
      let in_it = drop_inside page drop places room found.0 (state.rules found.0 found.1) (omega arith) in
      let first : begins page end < suc found.0 = subst (λ (e : ℕ). begins page e < suc found.0) at in_it.first in
      omega (arith, found.1))

  pending_begun : (i : ℕ) → i < places → begins page (suc i) ≡ suc n → (((is_pending page drop n (suc i) && not (eqb (suc i) (suc n))) && not (eqb (suc i) d)) || eqb (suc i) (ends (suc n))) ≡ is_pending page drop' (suc n) (suc i)
  pending_begun i i_below begins_here =
      let end_is : ends (suc n) ≡ suc i = sym (ap ends begins_here) ∙ are.begun i i_below (omega arith) in
      let past : suc n < suc i = omega (arith, begins-lt page i) in
      let other : eqb d (suc i) ≡ false = ne_eqb d (suc i) (λ e.
      let in_it = d_inside (omega arith) in
      let first : begins page (suc i) < suc n = subst (λ (end : ℕ). begins page end < suc n) e in_it.first in
      omega arith) in
      let other' : eqb (drop' (suc n)) (suc i) ≡ false = ap (λ k. eqb k (suc i)) here ∙ other in
      let alive : is_dropped drop n (suc i) ≡ false = not_before (suc i) (omega arith) (omega arith) in
      let alive' : is_dropped drop' n (suc i) ≡ false = dropped_same page drop drop' n agree n (suc i) (omega arith) ∙ alive in
      let left : (((is_pending page drop n (suc i) && not (eqb (suc i) (suc n))) && not (eqb (suc i) d)) || eqb (suc i) (ends (suc n))) ≡ true = or_right _ _ (eq-eqb _ _ (sym end_is)) in
      let began : (leb 1 (begins page (suc i)) && ltb (begins page (suc i)) (suc (suc n))) ≡ true = and_from _ _ (le-leb 1 (begins page (suc i)) (omega arith)) (lt-ltb (begins page (suc i)) (suc (suc n)) (omega arith)) in
      let right : is_pending page drop' (suc n) (suc i) ≡ true = and_from _ _ (and_from _ _ began (lt-ltb (suc n) (suc i) past)) (not_from_false _ (or_from _ _ alive' other')) in
      left ∙ sym right

  pending_other : (i : ℕ) → i < places → begins page (suc i) ≢ suc n → (((is_pending page drop n (suc i) && not (eqb (suc i) (suc n))) && not (eqb (suc i) d)) || eqb (suc i) (ends (suc n))) ≡ is_pending page drop' (suc n) (suc i)
  pending_other i i_below elsewhere =
      let no_end : eqb (suc i) (ends (suc n)) ≡ false = ne_eqb (suc i) (ends (suc n)) (λ e.
      let only = are.only n below (omega arith) in
      elsewhere (ap (λ k. begins page k) e ∙ only.1)) in
      let swapped : eqb (suc i) d ≡ eqb d (suc i) = eqb_swap (suc i) d in
      let same_begin : ltb (begins page (suc i)) (suc (suc n)) ≡ ltb (begins page (suc i)) (suc n) = elim (cases_lt (begins page (suc i)) (suc n)) [
        | inl lt ↦ lt-ltb _ _ (omega arith) ∙ sym (lt-ltb _ _ lt)
        | inr le ↦ le-ltb _ _ (elim (cases_lt (suc n) (begins page (suc i))) [ inl lt ↦ omega arith | inr le' ↦ absurd (elsewhere (omega arith)) ]) ∙ sym (le-ltb _ _ le)
      ] in
      let dropped_here : is_dropped drop' (suc n) (suc i) ≡ (is_dropped drop n (suc i) || eqb d (suc i)) =
      two_ors (dropped_same page drop drop' n agree n (suc i) (omega arith)) (ap (λ k. eqb k (suc i)) here) in
      rw (no_end, pending_open page drop n (suc i), swapped) (or_none (is_open page drop n (suc i) && not (eqb d (suc i)))
      ∙ (nor (is_inside page (suc n) (suc i)) (is_dropped drop n (suc i)) (eqb d (suc i))
      ∙ sym (last_step (leb 1 (begins page (suc i))) (ltb (suc n) (suc i)) same_begin dropped_here)))

  counted_same : (i : ℕ) → i < n → (leb 1 (begins page (suc i)) && not (is_dropped drop' (suc n) (suc i))) ≡ (leb 1 (begins page (suc i)) && not (is_dropped drop n (suc i)))
  counted_same i i_below =
      let other : eqb d (suc i) ≡ false = ne_eqb d (suc i) (λ e. omega (arith, (d_inside (omega arith)).past)) in
      let dropped_here : is_dropped drop' (suc n) (suc i) ≡ is_dropped drop n (suc i) =
      two_ors (dropped_same page drop drop' n agree n (suc i) (omega arith)) (ap (λ k. eqb k (suc i)) here ∙ other) ∙ or_none (is_dropped drop n (suc i)) in
      ap (λ (b : Bool). leb 1 (begins page (suc i)) && not b) dropped_here

  counted_here : (leb 1 (begins page (suc n)) && not (is_dropped drop' (suc n) (suc n))) ≡ is_pending page drop n (suc n)
  counted_here =
      let other : eqb d (suc n) ≡ false = ne_eqb d (suc n) (λ e. omega (arith, (d_inside (omega arith)).past)) in
      let dropped_here : is_dropped drop' (suc n) (suc n) ≡ is_dropped drop n (suc n) =
      two_ors (dropped_same page drop drop' n agree n (suc n) (omega arith)) (ap (λ k. eqb k (suc n)) here ∙ other) ∙ or_none (is_dropped drop n (suc n)) in
      let first : ltb (begins page (suc n)) (suc n) ≡ true = lt-ltb _ _ (omega (arith, begins-lt page n)) in
      let past : ltb n (suc n) ≡ true = lt-ltb _ _ (omega arith) in
      rw (dropped_here, first, past) (ands_true (leb 1 (begins page (suc n))) (is_dropped drop n (suc n)))

  counted : faults + one_if (not (is_pending page drop n (suc n))) + count_places (λ end. leb 1 (begins page end) && not (is_dropped drop' (suc n) end)) (suc n) ≡ suc n
  counted =
      let before : count_places (λ end. leb 1 (begins page end) && not (is_dropped drop' (suc n) end)) n ≡ count_places (λ end. leb 1 (begins page end) && not (is_dropped drop n end)) n =
      count_same (λ end. leb 1 (begins page end) && not (is_dropped drop' (suc n) end)) (λ end. leb 1 (begins page end) && not (is_dropped drop n end)) n (λ i i_below. counted_same i i_below) in
      let now : one_if (leb 1 (begins page (suc n)) && not (is_dropped drop' (suc n) (suc n))) ≡ one_if (is_pending page drop n (suc n)) = ap one_if counted_here in
      let either : one_if (not (is_pending page drop n (suc n))) + one_if (is_pending page drop n (suc n)) ≡ 1 = one_of (is_pending page drop n (suc n)) in
      omega (arith, state.counted)

  forward_suc : Forward page places room begun (drops ++ d ∷ []) (faults + one_if (not (is_pending page drop n (suc n)))) (suc n)
  forward_suc = record {
    length_is = length-append drops (d ∷ []) ∙ omega (arith, state.length_is);
    holds = holds_same begun (λ end. ((is_pending page drop n end && not (eqb end (suc n))) && not (eqb end d)) || eqb end (ends (suc n))) (is_pending page drop' (suc n)) places
        (λ i i_below. elim (cases_eq (begins page (suc i)) (suc n)) [ inl at ↦ pending_begun i i_below at | inr elsewhere ↦ pending_other i i_below elsewhere ]) joined;
    rules = rules_all;
    counted = counted;
  }

  pub forward : (was : Bool) (more : ℕ) → was ≡ is_pending page drop n (suc n) → more ≡ one_if (not was) → Forward page places room begun (drops ++ d ∷ []) (faults + more) (n + 1)
  forward was more was_is more_is =
      let next : suc n ≡ n + 1 = omega arith in
      let more' : one_if (not (is_pending page drop n (suc n))) ≡ more = sym (more_is ∙ ap (λ b. one_if (not b)) was_is) in
      subst (λ (m : ℕ). Forward page places room begun (drops ++ d ∷ []) (faults + more) m) next
      (subst (λ (f : ℕ). Forward page places room begun (drops ++ d ∷ []) (faults + f) (suc n)) more' forward_suc)

-- before the first place nothing is open
none_open : (flags : List Bool) → All (λ flag. flag ≡ false) flags → (i : ℕ) → get_or flags i false ≡ false
none_open flags none i = elim (cases_lt i (length flags)) [ inl within ↦ none i false within | inr past ↦ get_or_past flags i false past ]

pub forward_none : (page : ℕ → ℕ) (places room : ℕ) (open_ends : List Bool) → All (λ flag. flag ≡ false) open_ends → Forward page places room open_ends [] 0 0
forward_none page places room open_ends none = record {
  length_is = refl;
  holds = record {
    has_it = λ i below. none_open open_ends none i ∙ sym (and_left _ _ (and_left _ _ (none_began (begins page (suc i)))));
    only = λ i there. absurd (both_ways _ (none_open open_ends none i) there);
  };
  rules = λ t below. absurd (omega arith);
  counted = refl;
}

-- an interval ends at one of the places
pub ends_within : (page : ℕ → ℕ) (places : ℕ) (ends : ℕ → ℕ) (i : ℕ) → i < places → AreEnds page places ends → ends (suc i) ≤ places
ends_within page places ends i below are = elim (cases_lt 0 (ends (suc i))) [
  | inl some ↦ (are.only i below some).0
  | inr none ↦ omega arith
]

pub one_if-le : (b : Bool) → one_if b ≤ 1
one_if-le true = omega arith
one_if-le false = omega arith
