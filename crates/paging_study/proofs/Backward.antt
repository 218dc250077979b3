-- One place of the backward pass that finds the cuts.
use Rattle.std.proofs.Common.{◌≡◌, ◌≢◌, ℕ, suc, zero, ◌-◌, ◌<◌, ◌≤◌, ◌⊎◌, Bool, true, false, List, length, get_or, set, ap, sym, ◌∙◌, subst, inl, inr, arith, leb, ltb, ◌&&◌, not}
use Rattle.std.proofs.lemmas.List.{get_or-set_same, get_or-set_other}
use Rattle.std.proofs.lemmas.Bool.{cases_lt, cases_eq, false_from_ne_true, and_parts, and_from, and_left, and_right, ltb-true, le-leb, lt-leb, lt-ltb, le-ltb, not_from_true, not_from_false}
use Rattle.paging_study.specs.Places.{any_place, page_at, flag_at}
use Rattle.paging_study.specs.Least.{is_cut}
use Rattle.paging_study.proofs.Begins.{any_place-some, any_place-from}
use Rattle.paging_study.proofs.Forward.{any_place_same}

-- the places after the first `left` are done, and the last cut taken is the least; the greatest
-- number of 32 bits if none was taken
pub record Backward (drop : ℕ → ℕ) (places : ℕ) (cut : ℕ → Bool) (last left : ℕ) : Type 0 where
  pub later : (i : ℕ) → i < places → cut (suc i) ≡ true → left ≤ i
  pub rule : (n : ℕ) → left ≤ n → n < places → cut (suc n) ≡ is_cut drop places cut n
  pub least : (i : ℕ) → i < places → cut (suc i) ≡ true → last ≤ suc i
  pub taken : (last ≡ 4294967295) ⊎ ((left < last) × (last ≤ places) × (cut (suc (last - 1)) ≡ true))

-- whether a later cut is before the end of what is dropped at the place after n
abbrev between : (ℕ → ℕ) → (ℕ → Bool) → ℕ → ℕ → Bool
between drop cut n later = (cut later && ltb (suc n) later) && ltb later (drop (suc n))

module _ (drop : ℕ → ℕ) (places : ℕ) (cut : ℕ → Bool) (last j : ℕ) (below : j < places) (state : Backward drop places cut last (suc j)) where
  -- the place is no cut: nothing is dropped there, or a later cut is before its end
  skipped : (drop (suc j) ≡ 0) ⊎ (last < drop (suc j)) → drop (suc j) ≤ 4294967295 → cut (suc j) ≡ is_cut drop places cut j
  skipped why fits =
      let none : cut (suc j) ≡ false = false_from_ne_true _ (λ is. omega (arith, state.later j below is)) in
      none ∙ sym (elim why [
        | inl nothing ↦ and_left _ _ (lt-leb 1 (drop (suc j)) (omega arith))
        | inr before ↦ elim state.taken [
          | inl unset ↦ absurd (omega arith)
          | inr set ↦
              let at : suc (last - 1) ≡ last = omega (arith, set.0) in
              let found : between drop cut j (suc (last - 1)) ≡ true = and_from _ _ (and_from _ _ set.2 (lt-ltb _ _ (omega (arith, set.0)))) (lt-ltb _ _ (omega arith)) in
              and_right _ _ (not_from_true _ (any_place-from (between drop cut j) places (last - 1) (omega (arith, set.0, set.1)) found))
        ]
      ])

  pub skip : (drop (suc j) ≡ 0) ⊎ (last < drop (suc j)) → drop (suc j) ≤ 4294967295 → Backward drop places cut last j
  skip why fits = record {
    later = λ i i_below is. omega (arith, state.later i i_below is);
    rule = λ n within n_below. elim (cases_eq n j) [
      | inl at ↦ subst (λ (k : ℕ). cut (suc k) ≡ is_cut drop places cut k) (sym at) (skipped why fits)
      | inr other ↦ state.rule n (elim (cases_lt j n) [ inl lt ↦ omega arith | inr le ↦ absurd (other (omega arith)) ]) n_below
    ];
    least = state.least;
    taken = elim state.taken [
      | inl unset ↦ inl unset
      | inr set ↦ inr (omega (arith, set.0), set.1, set.2)
    ];
  }

  module _ (cut' : ℕ → Bool) (some : 1 ≤ drop (suc j)) (within : drop (suc j) ≤ last) (here : cut' (suc j) ≡ true) (others : (i : ℕ) → i < places → i ≢ j → cut' (suc i) ≡ cut (suc i)) where
    between_same : (n i : ℕ) → j < n → i < places → between drop cut' n (suc i) ≡ between drop cut n (suc i)
    between_same n i after i_below = elim (cases_eq i j) [
      | inl at ↦
          let no : ltb (suc n) (suc i) ≡ false = le-ltb _ _ (omega arith) in
          and_left _ _ (and_right _ _ no) ∙ sym (and_left _ _ (and_right _ _ no))
      | inr other ↦ ap (λ (b : Bool). (b && ltb (suc n) (suc i)) && ltb (suc i) (drop (suc n))) (others i i_below other)
    ]

    none_between : any_place (between drop cut' j) places ≡ false
    none_between = false_from_ne_true _ (λ is.
        let found = any_place-some (between drop cut' j) places is in
        let parts = and_parts _ _ found.2 in
        let parts' = and_parts _ _ parts.0 in
        let after : suc j < suc found.0 = ltb-true _ _ parts'.1 in
        let before : suc found.0 < drop (suc j) = ltb-true _ _ parts.1 in
        let was : cut (suc found.0) ≡ true = sym (others found.0 found.1 (λ e. omega arith)) ∙ parts'.0 in
        omega (arith, state.least found.0 found.1 was))

    pub take_cut : Backward drop places cut' (suc j) j
    take_cut = record {
      later = λ i i_below is. elim (cases_eq i j) [
        | inl at ↦ omega arith
        | inr other ↦ omega (arith, state.later i i_below (sym (others i i_below other) ∙ is))
      ];
      rule = λ n within' n_below. elim (cases_eq n j) [
        | inl at ↦ subst (λ (k : ℕ). cut' (suc k) ≡ is_cut drop places cut' k) (sym at)
            (here ∙ sym (and_from _ _ (le-leb _ _ some) (not_from_false _ none_between)))
        | inr other ↦
            let after : j < n = elim (cases_lt j n) [ inl lt ↦ lt | inr le ↦ absurd (other (omega arith)) ] in
            others n n_below other ∙ (state.rule n (omega arith) n_below
            ∙ ap (λ (b : Bool). leb 1 (drop (suc n)) && not b) (sym (any_place_same (between drop cut' n) (between drop cut n) places (λ i i_below. between_same n i after i_below))))
      ];
      least = λ i i_below is. elim (cases_eq i j) [
        | inl at ↦ omega arith
        | inr other ↦ omega (arith, state.later i i_below (sym (others i i_below other) ∙ is))
      ];
      taken = inr (omega arith, omega arith, subst (λ (k : ℕ). cut' (suc k) ≡ true) (omega arith) here);
    }

-- the same over the lists, where `left` places are left
module _ (drops : List ℕ) (flags flags' : List Bool) (last : ℕ) where
  pub back_take : (left : ℕ) → 1 ≤ left → left ≤ length drops → length flags ≡ length drops → flags' ≡ set flags (left - 1) true
      → Backward (page_at drops) (length drops) (flag_at flags) last left → 1 ≤ get_or drops (left - 1) 0 → get_or drops (left - 1) 0 ≤ last
      → Backward (page_at drops) (length drops) (flag_at flags') left (left - 1)
  back_take zero some within lengths changed state dropped earlier = absurd (omega arith)
  back_take (suc j) some within lengths changed state dropped earlier =
      let before : suc j - 1 ≡ j = omega arith in
      let here : flag_at flags' (suc j) ≡ true = rw changed (get_or-set_same flags (suc j - 1) true false (omega arith)) in
      rw before (take_cut (page_at drops) (length drops) (flag_at flags) last j (omega arith) state (flag_at flags') dropped earlier here
      (λ i i_below other. rw changed (get_or-set_other flags (suc j - 1) (suc i - 1) true false (λ e. other (omega arith)))))

  pub back_skip : (left : ℕ) → 1 ≤ left → left ≤ length drops → flags' ≡ flags
      → Backward (page_at drops) (length drops) (flag_at flags) last left → (get_or drops (left - 1) 0 ≡ 0) ⊎ (last < get_or drops (left - 1) 0) → get_or drops (left - 1) 0 ≤ 4294967295
      → Backward (page_at drops) (length drops) (flag_at flags') last (left - 1)
  back_skip zero some within same state why fits = absurd (omega arith)
  back_skip (suc j) some within same state why fits =
      let before : suc j - 1 ≡ j = omega arith in
      rw before (subst (λ (fs : List Bool). Backward (page_at drops) (length drops) (flag_at fs) last j) (sym same)
      (skip (page_at drops) (length drops) (flag_at flags) last j (omega arith) state why fits))
