-- The rule has one choice: the drops from the first place on, and the cuts from the last one back.
use Rattle.std.proofs.Common.{◌≡◌, ◌≢◌, ℕ, suc, zero, ◌+◌, ◌-◌, ◌<◌, ◌≤◌, Bool, true, false, ap, sym, ◌∙◌, subst, inl, inr, arith, eqb, leb, ltb, ◌&&◌, not}
use Rattle.std.proofs.lemmas.Bool.{cases_lt, cases_eq, cases_Bool, both_ways, eqb-true, eq-eqb, and_parts, and_left, and_right, le-ltb}
use Rattle.paging_study.specs.Places.{count_places, any_place}
use Rattle.paging_study.specs.Intervals.{begins, is_inside}
use Rattle.paging_study.specs.Least.{is_dropped, is_open, AreDrops, AreKept, AreCuts}
use Rattle.paging_study.specs.Laws.{HasOneChoice}
use Rattle.paging_study.proofs.Counts.{count_same}
use Rattle.paging_study.proofs.Begins.{any_place-some, any_place-from, inside}
use Rattle.paging_study.proofs.Forward.{any_place_same, dropped_same, open_same}

module _ (page drop drop' : ℕ → ℕ) (places room : ℕ) (drops : AreDrops page drop places room) (drops' : AreDrops page drop' places room) where
  -- what the one drops, the other drops no earlier end than
  no_later : (n : ℕ) → n < places → ((i : ℕ) → i < n → drop' (suc i) ≡ drop (suc i)) → 1 ≤ drop' (suc n) → room < count_places (is_open page drop n) places → room < count_places (is_open page drop' n) places → drop' (suc n) ≤ drop (suc n)
  no_later n below agree some full full' =
      let at : suc (drop' (suc n) - 1) ≡ drop' (suc n) = omega arith in
      let there : is_open page drop n (drop' (suc n)) ≡ true = sym (open_same page drop drop' n agree n (drop' (suc n)) (omega arith)) ∙ (drops' n below).open_there full' in
      let there' : is_open page drop n (suc (drop' (suc n) - 1)) ≡ true = subst (λ (end : ℕ). is_open page drop n end ≡ true) (sym at) there in
      omega (arith, (drops n below).last (drop' (suc n) - 1) (omega (arith, (drops' n below).exists)) there' full)

  some_there : (n : ℕ) → n < places → room < count_places (is_open page drop n) places → 1 ≤ drop (suc n)
  some_there n below full =
      let parts = and_parts (is_inside page (suc n) (drop (suc n))) (not (is_dropped drop n (drop (suc n)))) ((drops n below).open_there full) in
      omega (arith, (inside page (suc n) (drop (suc n)) parts.0).past)

module _ (page drop drop' : ℕ → ℕ) (places room : ℕ) (drops : AreDrops page drop places room) (drops' : AreDrops page drop' places room) where
  one_drop : (n : ℕ) → n < places → ((i : ℕ) → i < n → drop' (suc i) ≡ drop (suc i)) → drop' (suc n) ≡ drop (suc n)
  one_drop n below agree =
      let back : (i : ℕ) → i < n → drop (suc i) ≡ drop' (suc i) = λ i i_below. sym (agree i i_below) in
      let count : count_places (is_open page drop' n) places ≡ count_places (is_open page drop n) places =
      count_same (is_open page drop' n) (is_open page drop n) places (λ i _. open_same page drop drop' n agree n (suc i) (omega arith)) in
      elim (cases_lt room (count_places (is_open page drop n) places)) [
        | inr few ↦ (drops' n below).none (omega arith) ∙ sym ((drops n below).none few)
        | inl full ↦
            let full' : room < count_places (is_open page drop' n) places = omega arith in
            omega (
              arith,
              no_later page drop drop' places room drops drops' n below agree (some_there page drop' drop places room drops' drops n below full') full full',
              no_later page drop' drop places room drops' drops n below back (some_there page drop drop' places room drops drops' n below full) full' full,
            )
      ]

  same_drops : (n : ℕ) → n ≤ places → (i : ℕ) → i < n → drop' (suc i) ≡ drop (suc i)
  same_drops zero within i below = absurd (omega arith)
  same_drops (suc n) within i below = elim (cases_eq i n) [
    | inl at ↦ subst (λ (k : ℕ). drop' (suc k) ≡ drop (suc k)) (sym at) (one_drop n (omega arith) (same_drops n (omega arith)))
    | inr other ↦ same_drops n (omega arith) i (elim (cases_lt i n) [ inl lt ↦ lt | inr le ↦ absurd (other (omega arith)) ])
  ]

  module _ (kept kept' : ℕ → Bool) (keeps : AreKept page drop places kept) (keeps' : AreKept page drop' places kept') where
    same_end : (n i : ℕ) → n < places → begins page (suc n) ≡ suc i → kept' (suc i) ≡ kept (suc i)
    same_end n i below is =
        let some : 1 ≤ begins page (suc n) = omega arith in
        let one : kept (suc i) ≡ not (is_dropped drop places (suc n)) = subst (λ (b : ℕ). kept b ≡ not (is_dropped drop places (suc n))) is (keeps.interval n below some) in
        let two : kept' (suc i) ≡ not (is_dropped drop' places (suc n)) = subst (λ (b : ℕ). kept' b ≡ not (is_dropped drop' places (suc n))) is (keeps'.interval n below some) in
        two ∙ (ap (λ (b : Bool). not b) (dropped_same page drop drop' places (same_drops places (omega arith)) places (suc n) (omega arith)) ∙ sym one)

    same_kept : (i : ℕ) → i < places → kept' (suc i) ≡ kept (suc i)
    same_kept i below = elim (cases_Bool (any_place (λ end. eqb (begins page end) (suc i)) places)) [
      | inl found ↦
          let at = any_place-some (λ end. eqb (begins page end) (suc i)) places found in
          same_end at.0 i at.1 (eqb-true _ _ at.2)
      | inr nowhere ↦
          let none : (n : ℕ) → n < places → begins page (suc n) ≢ suc i = λ n n_below is.
          both_ways _ nowhere (any_place-from (λ end. eqb (begins page end) (suc i)) places n n_below (eq-eqb _ _ is)) in
          keeps'.none i below none ∙ sym (keeps.none i below none)
    ]

  module _ (cut cut' : ℕ → Bool) (cuts : AreCuts drop places cut) (cuts' : AreCuts drop' places cut') where
    -- the rule for a place looks at later cuts alone
    one_cut : (n : ℕ) → n < places → ((i : ℕ) → n < i → i < places → cut' (suc i) ≡ cut (suc i)) → cut' (suc n) ≡ cut (suc n)
    one_cut n below later =
        let same : drop' (suc n) ≡ drop (suc n) = same_drops places (omega arith) n below in
        let between : any_place (λ c. (cut' c && ltb (suc n) c) && ltb c (drop (suc n))) places ≡ any_place (λ c. (cut c && ltb (suc n) c) && ltb c (drop (suc n))) places =
        any_place_same (λ c. (cut' c && ltb (suc n) c) && ltb c (drop (suc n))) (λ c. (cut c && ltb (suc n) c) && ltb c (drop (suc n))) places (λ i i_below. elim (cases_lt n i) [
          | inl after ↦ ap (λ (b : Bool). (b && ltb (suc n) (suc i)) && ltb (suc i) (drop (suc n))) (later i after i_below)
          | inr before ↦
              let no : ltb (suc n) (suc i) ≡ false = le-ltb _ _ (omega arith) in
              and_left _ _ (and_right _ _ no) ∙ sym (and_left _ _ (and_right _ _ no))
        ]) in
        cuts' n below ∙ (ap (λ (d : ℕ). leb 1 d && not (any_place (λ c. (cut' c && ltb (suc n) c) && ltb c d) places)) same
        ∙ (ap (λ (b : Bool). leb 1 (drop (suc n)) && not b) between ∙ sym (cuts n below)))

    cuts_from : (k n : ℕ) → places ≤ n + k → (i : ℕ) → n ≤ i → i < places → cut' (suc i) ≡ cut (suc i)
    cuts_from zero n past i from below = absurd (omega arith)
    cuts_from (suc k) n past i from below = elim (cases_eq i n) [
      | inl at ↦ one_cut i below (λ j after j_below. cuts_from k (suc n) (omega arith) j (omega arith) j_below)
      | inr other ↦ cuts_from k (suc n) (omega arith) i (elim (cases_lt n i) [ inl lt ↦ omega arith | inr le ↦ absurd (other (omega arith)) ]) below
    ]

    same_cut : (i : ℕ) → i < places → cut' (suc i) ≡ cut (suc i)
    same_cut i below = cuts_from places 0 (omega arith) i (omega arith) below

pub has_one_choice : HasOneChoice
has_one_choice page places room kept kept' cut cut' chosen chosen' n below = (
  same_kept page chosen.drop chosen'.drop places room chosen.drops chosen'.drops kept kept' chosen.keeps chosen'.keeps n below,
  same_cut page chosen.drop chosen'.drop places room chosen.drops chosen'.drops cut cut' chosen.cuts chosen'.cuts n below,
)
