-- The ends of the intervals of the first places.
use Rattle.std.proofs.Common.{◌≡◌, ◌≢◌, ℕ, suc, zero, ◌+◌, ◌-◌, ◌*◌, ◌/◌, ◌<◌, ◌≤◌, true, false, Option, Some, None, List, [], ◌∷◌, ◌++◌, length, length-append, get_or, set, length-set, replicate, ap, sym, ◌∙◌, refl, subst, inl, inr, arith, eqb}
use Rattle.std.proofs.lemmas.Bool.{cases_lt, cases_eq, eq-eqb, ne_eqb}
use Rattle.std.specs.Option.{unwrap_or}
use Rattle.std.proofs.lemmas.List.{get_or-set_same, get_or-set_other, get_or_append_left, get_or-append_right}
use Rattle.std.proofs.lemmas.Nat.{div-add-mod', mod_below}
use Rattle.paging_study.specs.Places.{page_at, last_place}
use Rattle.paging_study.specs.Intervals.{begins}
use Rattle.paging_study.specs.Least.{AreBegins, AreEnds}
use Rattle.paging_study.proofs.Begins.{begins-lt, begins-one}

-- a place, or none if it is 0
abbrev pub found : ℕ → Option ℕ
found zero = None
found (suc n) = Some (suc n)

pub record EndsSoFar (page : ℕ → ℕ) (places : ℕ) (ends : ℕ → ℕ) (n : ℕ) : Type 0 where
  pub begun : (t : ℕ) → t < n → 1 ≤ begins page (suc t) → ends (begins page (suc t)) ≡ suc t
  pub only : (i : ℕ) → i < places → 1 ≤ ends (suc i) → (ends (suc i) ≤ places) × (begins page (ends (suc i)) ≡ suc i)

module _ (page : ℕ → ℕ) (places : ℕ) (ends : ℕ → ℕ) (n : ℕ) (below : n < places) (before : EndsSoFar page places ends n) where
  -- a page that wasn't referenced before ends no interval
  pub ends_none : begins page (suc n) ≡ 0 → EndsSoFar page places ends (suc n)
  ends_none none = record {
    begun = λ t t_below some. before.begun t (elim (cases_eq t n) [
      | inl at ↦ absurd (let some' : 1 ≤ begins page (suc n) = subst (λ (j : ℕ). 1 ≤ begins page (suc j)) at some in omega arith)
      | inr other ↦ elim (cases_lt t n) [ inl lt ↦ lt | inr le ↦ absurd (other (omega arith)) ]
    ]) some;
    only = before.only;
  }

  -- one that was ends the interval from its last place
  pub ends_step : (ends' : ℕ → ℕ) → 1 ≤ begins page (suc n) → ends' (begins page (suc n)) ≡ suc n → ((first : ℕ) → 1 ≤ first → first ≢ begins page (suc n) → ends' first ≡ ends first) → EndsSoFar page places ends' (suc n)
  ends_step ends' some here others = record {
    begun = λ t t_below some'. elim (cases_eq t n) [
      | inl at ↦ subst (λ (j : ℕ). ends' (begins page (suc j)) ≡ suc j) (sym at) here
      | inr other ↦ others (begins page (suc t)) some' (λ e. other (begins-one page t n some' e)) ∙ before.begun t (elim (cases_lt t n) [ inl lt ↦ lt | inr le ↦ absurd (other (omega arith)) ]) some'
    ];
    only = λ i i_below some'. elim (cases_eq (suc i) (begins page (suc n))) [
      | inl at ↦
          let end : ends' (suc i) ≡ suc n = ap ends' at ∙ here in
          (omega arith, ap (λ e. begins page e) end ∙ sym at)
      | inr other ↦
          let same : ends' (suc i) ≡ ends (suc i) = others (suc i) (omega arith) other in
          let old = before.only i i_below (omega arith) in
          (omega (arith, old.0), ap (λ e. begins page e) same ∙ old.1)
    ];
  }

-- each page's last place so far, and where the intervals that ended so far begin
pub record BeginsState (last : List (Option ℕ)) (pages firsts : List ℕ) (n : ℕ) : Type 0 where
  pub last_places : (y : ℕ) → y < length last → get_or last y None ≡ found (last_place (λ i. eqb (page_at pages i) y) n)
  pub length_is : length firsts ≡ n
  pub firsts_are : (t : ℕ) → t < n → get_or firsts t 0 ≡ begins (page_at pages) (suc t)

unwrap_found : (x : ℕ) → unwrap_or (found x) 0 ≡ x
unwrap_found zero = refl
unwrap_found (suc x) = refl

-- no place of a page
abbrev pub no_place : Option ℕ
no_place = None

module _ (pages : List ℕ) (n : ℕ) (last : List (Option ℕ)) (firsts : List ℕ) (state : BeginsState last pages firsts n) where
  -- the place before, at which the page was referenced last
  first_place : (p : ℕ) (old : Option ℕ) → p ≡ page_at pages (suc n) → p < length last → old ≡ get_or last p None → unwrap_or old 0 ≡ begins (page_at pages) (suc n)
  first_place p old is within old_is =
      let found_is : old ≡ found (begins (page_at pages) (suc n)) = old_is ∙ (state.last_places p within ∙ ap (λ y. found (last_place (λ i. eqb (page_at pages i) y) n)) is) in
      ap (λ o. unwrap_or o 0) found_is ∙ unwrap_found (begins (page_at pages) (suc n))

  last_set : (p place : ℕ) → p ≡ page_at pages (suc n) → place ≡ suc n → (y : ℕ) → y < length last → get_or (set last p (Some place)) y None ≡ found (last_place (λ i. eqb (page_at pages i) y) (suc n))
  last_set p place is place_is y within = elim (cases_eq y p) [
    | inl at ↦
        let test : eqb (page_at pages (suc n)) y ≡ true = eq-eqb _ _ (sym is ∙ sym at) in
        let here : get_or (set last p (Some place)) y None ≡ Some place = rw at (get_or-set_same last p (Some place) None (omega (arith, at, within))) in
        rw test (here ∙ ap (λ (k : ℕ). Some k) place_is)
    | inr other ↦
        let test : eqb (page_at pages (suc n)) y ≡ false = ne_eqb _ _ (λ e. other (sym e ∙ sym is)) in
        rw test (get_or-set_other last p y (Some place) None other ∙ state.last_places y within)
  ]

  pub begins_state : (last' : List (Option ℕ)) (p place first : ℕ) (old : Option ℕ) → p ≡ page_at pages (suc n) → p < length last → place ≡ n + 1 → old ≡ get_or last p None → first ≡ unwrap_or old 0
      → last' ≡ set last p (Some place) → BeginsState last' pages (firsts ++ first ∷ []) (n + 1)
  begins_state last' p place first old is within place_is old_is first_is updated =
      let next : suc n ≡ n + 1 = omega arith in
      let place_suc : place ≡ suc n = omega arith in
      let first_is' : first ≡ begins (page_at pages) (suc n) = first_is ∙ first_place p old is within old_is in
      subst (λ (m : ℕ). BeginsState last' pages (firsts ++ first ∷ []) m) next (record {
        last_places = λ y y_within.
            let same : length last' ≡ length last = ap length updated ∙ length-set last p (Some place) in
            ap (λ (xs : List (Option ℕ)). get_or xs y None) updated ∙ last_set p place is place_suc y (omega (arith, same, y_within));
        length_is = length-append firsts (first ∷ []) ∙ omega (arith, state.length_is);
        firsts_are = λ t t_below. elim (cases_eq t n) [
          | inl at ↦
              let here : get_or (firsts ++ first ∷ []) t 0 ≡ first = rw (at, sym state.length_is) (get_or-append_right firsts (first ∷ []) (length firsts) (length firsts) 0 refl (omega arith) ∙ (let none : length firsts - length firsts ≡ 0 = omega arith in rw none refl)) in
              here ∙ (first_is' ∙ ap (λ (k : ℕ). begins (page_at pages) (suc k)) (sym at))
          | inr other ↦
              let earlier : t < n = elim (cases_lt t n) [ inl lt ↦ lt | inr le ↦ absurd (other (omega arith)) ] in
              get_or_append_left firsts (first ∷ []) 0 t (omega (arith, state.length_is)) ∙ state.firsts_are t earlier
        ];
      })

-- before the first place
none_there : (m y : ℕ) → get_or (replicate m no_place) y None ≡ None
none_there zero y = refl
none_there (suc m) zero = refl
none_there (suc m) (suc y) = none_there m y

pub begins_none : (pages firsts : List ℕ) (last : List (Option ℕ)) (m : ℕ) → firsts ≡ [] → last ≡ replicate m no_place → BeginsState last pages firsts 0
begins_none pages firsts last m empty is = record {
  last_places = λ y y_within. ap (λ (xs : List (Option ℕ)). get_or xs y None) is ∙ none_there m y;
  length_is = ap length empty;
  firsts_are = λ t t_below. absurd (omega arith);
}

-- no page is greater than the greatest
pub within_rows : (greatest x m : ℕ) → x ≤ greatest → m ≡ (greatest / 64 + 1) * 64 → x < m
within_rows greatest x m le is = omega (arith, div-add-mod' greatest 64, mod_below greatest 64 (omega arith))

-- one more end is set, where an interval begins
module _ (page : ℕ → ℕ) (places n : ℕ) (below : n < places) where
  set_step : (xs ys : List ℕ) (first : ℕ) → first ≡ begins page (suc n) → length xs ≡ places
      → (first ≡ 0 → ys ≡ xs) → (1 ≤ first → ys ≡ set xs (first - 1) (suc n)) → EndsSoFar page places (page_at xs) n → EndsSoFar page places (page_at ys) (suc n)
  set_step xs ys first is len unset changed so_far = elim (cases_lt 0 first) [
    | inr none ↦
        let none' : first ≡ 0 = omega arith in
        subst (λ (zs : List ℕ). EndsSoFar page places (page_at zs) (suc n)) (sym (unset none')) (ends_none page places (page_at xs) n below so_far (sym is ∙ none'))
    | inl some ↦
        let within : first - 1 < length xs = omega (arith, begins-lt page n) in
        ends_step page places (page_at xs) n below so_far (page_at ys) (omega arith)
        (rw (changed some, ← is) (get_or-set_same xs (first - 1) (suc n) 0 within))
        (λ f f_some other. rw (changed some) (get_or-set_other xs (first - 1) (f - 1) (suc n) 0 (λ e. other (omega arith))))
  ]

  pub ends_more : (xs ys : List ℕ) (first place : ℕ) → first ≡ begins page (suc n) → place ≡ n + 1 → length xs ≡ places
      → (first ≡ 0 → ys ≡ xs) → (1 ≤ first → ys ≡ set xs (first - 1) place) → EndsSoFar page places (page_at xs) n → EndsSoFar page places (page_at ys) (n + 1)
  ends_more xs ys first place is place_is len unset changed so_far =
      let place_suc : place ≡ suc n = omega arith in
      subst (λ (m : ℕ). EndsSoFar page places (page_at ys) m) (omega arith)
      (set_step xs ys first is len unset (λ some. changed some ∙ ap (λ (v : ℕ). set xs (first - 1) v) place_suc) so_far)

-- the ends of the pages' own intervals
pub ends_from : (pages firsts xs ends : List ℕ) → xs ≡ firsts → AreBegins (page_at pages) firsts → length firsts ≡ length pages
    → ((page : ℕ → ℕ) → AreBegins page xs → AreEnds page (length xs) (page_at ends)) → AreEnds (page_at pages) (length pages) (page_at ends)
ends_from pages firsts xs ends same are lengths made =
    subst (λ (n : ℕ). AreEnds (page_at pages) n (page_at ends)) (ap length same ∙ lengths)
    (made (page_at pages) (subst (λ (ys : List ℕ). AreBegins (page_at pages) ys) (sym same) are))

-- where the interval begins that ends at the place after i
pub first_at : (pages firsts xs : List ℕ) → xs ≡ firsts → AreBegins (page_at pages) firsts → (i : ℕ) → i < length xs → get_or xs i 0 ≡ begins (page_at pages) (suc i)
first_at pages firsts xs same are i below = ap (λ (ys : List ℕ). get_or ys i 0) same ∙ are i (omega (arith, ap length same))

-- an interval begins before the place where it ends
pub begins_before : (pages firsts xs : List ℕ) → xs ≡ firsts → AreBegins (page_at pages) firsts → (i : ℕ) → i < length xs → get_or xs i 0 ≤ i
begins_before pages firsts xs same are i below =
    omega (arith, begins-lt (page_at pages) i, first_at pages firsts xs same are i below)
