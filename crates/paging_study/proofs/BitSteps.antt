-- Bits of words after one is set or cleared, and the greatest that is set.
use Rattle.std.proofs.Common.{◌≡◌, ◌≢◌, ℕ, suc, ◌+◌, ◌-◌, ◌*◌, ◌/◌, ◌%◌, ◌^◌, ◌<◌, ◌≤◌, Bool, true, false, List, length, get_or, ap, sym, ◌∙◌, refl, subst, inl, inr, arith, eqb, ltb, ◌&&◌, ◌||◌, not}
use Rattle.std.specs.Int.{bit_at}
use Rattle.std.proofs.lemmas.Bool.{cases_lt, cases_eq, false_from_ne_true, both_ways, eqb-true, eq-eqb, ne_eqb, or_right, and_right, not_from_true, lt-ltb, le-ltb, ltb-true}
use Rattle.std.proofs.lemmas.List.{get_or_past}
use Rattle.std.proofs.lemmas.Nat.{div-add-mod', mod_below, div_below, le-div, pow_pos, leading_top}
use Rattle.std.proofs.lemmas.Nat.Bits.{bit_at-zero, bit_at_above}
use Rattle.std.proofs.lemmas.Grind.{pow_more}
use lib.Count.{count_leading_zeros}
use Rattle.paging_study.specs.Bits.{is_set, AreTops}

or_false : (a : Bool) → (a || false) ≡ a
or_false true = refl
or_false false = refl

and_true : (a : Bool) → (a && true) ≡ a
and_true true = refl
and_true false = refl

-- the greatest bit of a word that is set
pub record Highest (word bit : ℕ) : Type 0 where
  pub set : bit_at word bit ≡ 1
  pub last : (i : ℕ) → i < 64 → bit_at word i ≡ 1 → i ≤ bit

highest_at : (word bit : ℕ) → 2 ^ bit ≤ word → word < 2 ^ suc bit → Highest word bit
highest_at word bit low high = record {
  set =
      let next : suc bit ≡ bit + 1 = omega arith in
      let twice : 2 ^ suc bit ≡ 2 ^ bit * 2 = ap (λ (k : ℕ). 2 ^ k) next ∙ pow_more 2 bit in
      let one : word / 2 ^ bit ≡ 1 = omega (arith, le-div 1 word (2 ^ bit) (pow_pos bit) (omega arith), div_below word (2 ^ bit) 2 (pow_pos bit) (omega arith)) in
      ap (λ (q : ℕ). q % 2) one;
  last = λ i _ is. elim (cases_lt bit i) [
    | inl past ↦ absurd (let none : bit_at word i ≡ 0 = bit_at_above word (suc bit) i high past in omega (arith, none, is))
    | inr within ↦ within
  ];
}

pub highest : (word : ℕ) → 0 < word → word < 2 ^ 64 → Highest word (63 - count_leading_zeros 64 word)
highest word some fits =
    let top = leading_top 64 word some fits in
    let bit : 63 - count_leading_zeros 64 word ≡ top.0 = omega (arith, top.1) in
    subst (λ (b : ℕ). Highest word b) (sym bit) (highest_at word top.0 top.2 top.3)

same_number : (m n : ℕ) → m / 64 ≡ n / 64 → m % 64 ≡ n % 64 → m ≡ n
same_number m n word bit = omega (arith, div-add-mod' m 64, div-add-mod' n 64)

-- one word changes in one bit
module _ (words words' : List ℕ) (n : ℕ) (others : (g : ℕ) → g ≢ n / 64 → get_or words' g 0 ≡ get_or words g 0) where
  elsewhere : (m : ℕ) → m / 64 ≢ n / 64 → is_set words' m ≡ is_set words m
  elsewhere m other = ap (λ (w : ℕ). eqb (bit_at w (m % 64)) 1) (others (m / 64) other)

  beside : (i : ℕ) (w w' : ℕ) → get_or words (n / 64) 0 ≡ w → get_or words' (n / 64) 0 ≡ w' → bit_at w' i ≡ bit_at w i → eqb (bit_at (get_or words' (n / 64) 0) i) 1 ≡ eqb (bit_at (get_or words (n / 64) 0) i) 1
  beside i w w' was is same = ap (λ (v : ℕ). eqb (bit_at v i) 1) is ∙ (ap (λ (b : ℕ). eqb b 1) same ∙ ap (λ (v : ℕ). eqb (bit_at v i) 1) (sym was))

  pub set_step : (w w' : ℕ) → get_or words (n / 64) 0 ≡ w → get_or words' (n / 64) 0 ≡ w' → bit_at w' (n % 64) ≡ 1 → ((i : ℕ) → i ≢ n % 64 → bit_at w' i ≡ bit_at w i)
      → (m : ℕ) → is_set words' m ≡ (is_set words m || eqb m n)
  set_step w w' was is here rest m = elim (cases_eq (m / 64) (n / 64)) [
    | inr other ↦
        let no : eqb m n ≡ false = ne_eqb m n (λ e. other (ap (λ (k : ℕ). k / 64) e)) in
        rw no (elsewhere m other ∙ sym (or_false (is_set words m)))
    | inl word ↦ elim (cases_eq (m % 64) (n % 64)) [
      | inl bit ↦
          let same : m ≡ n = same_number m n word bit in
          let set : is_set words' n ≡ true = eq-eqb _ 1 (ap (λ (v : ℕ). bit_at v (n % 64)) is ∙ here) in
          ap (is_set words') same ∙ (set ∙ sym (or_right (is_set words m) (eqb m n) (eq-eqb m n same)))
      | inr other ↦
          let no : eqb m n ≡ false = ne_eqb m n (λ e. other (ap (λ (k : ℕ). k % 64) e)) in
          let at : is_set words' m ≡ is_set words m =
          subst (λ (g : ℕ). eqb (bit_at (get_or words' g 0) (m % 64)) 1 ≡ eqb (bit_at (get_or words g 0) (m % 64)) 1) (sym word) (beside (m % 64) w w' was is (rest (m % 64) other)) in
          rw no (at ∙ sym (or_false (is_set words m)))
    ]
  ]

  pub clear_step : (w w' : ℕ) → get_or words (n / 64) 0 ≡ w → get_or words' (n / 64) 0 ≡ w' → bit_at w' (n % 64) ≡ 0 → ((i : ℕ) → i < 64 → i ≢ n % 64 → bit_at w' i ≡ bit_at w i)
      → (m : ℕ) → is_set words' m ≡ (is_set words m && not (eqb m n))
  clear_step w w' was is here rest m = elim (cases_eq (m / 64) (n / 64)) [
    | inr other ↦
        let no : eqb m n ≡ false = ne_eqb m n (λ e. other (ap (λ (k : ℕ). k / 64) e)) in
        rw no (elsewhere m other ∙ sym (and_true (is_set words m)))
    | inl word ↦ elim (cases_eq (m % 64) (n % 64)) [
      | inl bit ↦
          let same : m ≡ n = same_number m n word bit in
          let clear : is_set words' n ≡ false = ap (λ (v : ℕ). eqb (bit_at v (n % 64)) 1) is ∙ ap (λ (b : ℕ). eqb b 1) here in
          ap (is_set words') same ∙ (clear ∙ sym (and_right (is_set words m) (not (eqb m n)) (not_from_true _ (eq-eqb m n same))))
      | inr other ↦
          let no : eqb m n ≡ false = ne_eqb m n (λ e. other (ap (λ (k : ℕ). k % 64) e)) in
          let at : is_set words' m ≡ is_set words m =
          subst (λ (g : ℕ). eqb (bit_at (get_or words' g 0) (m % 64)) 1 ≡ eqb (bit_at (get_or words g 0) (m % 64)) 1) (sym word) (beside (m % 64) w w' was is (rest (m % 64) (mod_below m 64 (omega arith)) other)) in
          rw no (at ∙ sym (and_true (is_set words m)))
    ]
  ]

-- a word with a bit set is not 0
pub some_word : (word bit : ℕ) → bit_at word bit ≡ 1 → 0 < word
some_word word bit set = elim (cases_lt 0 word) [
  | inl some ↦ some
  | inr none ↦
      let clear : bit_at word bit ≡ 0 = ap (λ (w : ℕ). bit_at w bit) (omega arith) ∙ bit_at-zero bit in
      absurd (omega arith)
]

-- a word with a bit set is not 0, and is one of the words
pub some_bit : (words : List ℕ) (n : ℕ) → is_set words n ≡ true → 0 < get_or words (n / 64) 0
some_bit words n set = some_word (get_or words (n / 64) 0) (n % 64) (eqb-true _ 1 set)

pub word_within : (words : List ℕ) (g : ℕ) → 0 < get_or words g 0 → g < length words
word_within words g some = elim (cases_lt g (length words)) [
  | inl within ↦ within
  | inr past ↦ absurd (let none : get_or words g 0 ≡ 0 = get_or_past words g 0 past in omega arith)
]

-- the bits of the tops after a word of those below got a bit, or lost one
module _ (words tops words' tops' : List ℕ) (g : ℕ) (are : AreTops words tops) (others : (h : ℕ) → h ≢ g → get_or words' h 0 ≡ get_or words h 0) where
  pub tops_set : 0 < get_or words' g 0 → ((h : ℕ) → is_set tops' h ≡ (is_set tops h || eqb h g)) → AreTops words' tops'
  tops_set some bits h = elim (cases_eq h g) [
    | inl at ↦ bits h ∙ (or_right _ _ (eq-eqb h g at) ∙ sym (rw at (lt-ltb 0 (get_or words' g 0) some)))
    | inr other ↦
        let no : eqb h g ≡ false = ne_eqb h g other in
        bits h ∙ rw no (or_false (is_set tops h) ∙ (are h ∙ ap (λ (w : ℕ). ltb 0 w) (sym (others h other))))
  ]

  left_there : (leaves empty : Bool) → (leaves ≡ false → get_or words' g 0 ≡ get_or words g 0) → 0 < get_or words g 0
      → empty ≡ (leaves && eqb (get_or words' g 0) 0) → (true && not (empty && true)) ≡ ltb 0 (get_or words' g 0)
  left_there false empty stays some is = rw is (sym (lt-ltb 0 (get_or words' g 0) (let same : get_or words' g 0 ≡ get_or words g 0 = stays refl in omega arith)))
  left_there true empty stays some is = rw is (elim (cases_lt 0 (get_or words' g 0)) [
    | inl more ↦ rw (lt-ltb 0 (get_or words' g 0) more, ne_eqb (get_or words' g 0) 0 (λ e. omega arith)) refl
    | inr none ↦ rw (le-ltb 0 (get_or words' g 0) none, eq-eqb (get_or words' g 0) 0 (omega arith)) refl
  ])

  pub tops_clear : (leaves empty : Bool) → (leaves ≡ false → get_or words' g 0 ≡ get_or words g 0) → 0 < get_or words g 0
      → empty ≡ (leaves && eqb (get_or words' g 0) 0) → ((h : ℕ) → is_set tops' h ≡ (is_set tops h && not (empty && eqb h g))) → AreTops words' tops'
  tops_clear leaves empty stays some is bits h = elim (cases_eq h g) [
    | inl at ↦
        let was : is_set tops h ≡ true = are h ∙ lt-ltb 0 (get_or words h 0) (rw at some) in
        bits h ∙ rw (was, eq-eqb h g at, at) (left_there leaves empty stays some is)
    | inr other ↦
        let no : (empty && eqb h g) ≡ false = and_right empty (eqb h g) (ne_eqb h g other) in
        bits h ∙ rw no (and_true (is_set tops h) ∙ (are h ∙ ap (λ (w : ℕ). ltb 0 w) (sym (others h other))))
  ]

-- what is set in the tops is a word that is not 0
pub below_top : (words tops : List ℕ) (g : ℕ) → AreTops words tops → is_set tops g ≡ true → 0 < get_or words g 0
below_top words tops g are set = ltb-true 0 (get_or words g 0) (sym (are g) ∙ set)

pub above_word : (words tops : List ℕ) (n : ℕ) → AreTops words tops → is_set words n ≡ true → is_set tops (n / 64) ≡ true
above_word words tops n are set = are (n / 64) ∙ lt-ltb 0 (get_or words (n / 64) 0) (some_bit words n set)

-- with no tops there are no words
pub none_below : (words tops : List ℕ) → AreTops words tops → ((g : ℕ) → is_set tops g ≡ false) → (n : ℕ) → is_set words n ≡ false
none_below words tops are none n = false_from_ne_true _ (λ set. both_ways _ (none (n / 64)) (above_word words tops n are set))

-- with one word, only its numbers are set
pub in_one : (roots : List ℕ) (n : ℕ) → length roots ≡ 1 → is_set roots n ≡ true → n / 64 ≡ 0
in_one roots n one set = omega (arith, word_within roots (n / 64) (some_bit roots n set))

pub none_in_one : (roots : List ℕ) → length roots ≡ 1 → get_or roots 0 0 ≡ 0 → (n : ℕ) → is_set roots n ≡ false
none_in_one roots one zero_word n = false_from_ne_true _ (λ set.
    let some : 0 < get_or roots (n / 64) 0 = some_bit roots n set in
    let first : n / 64 ≡ 0 = in_one roots n one set in
    let some' : 0 < get_or roots 0 0 = subst (λ (k : ℕ). 0 < get_or roots k 0) first some in
    omega arith)

-- the last of the last word is the last of all
pub last_below : (words tops : List ℕ) (word place : ℕ) → AreTops words tops → ((g : ℕ) → is_set tops g ≡ true → g ≤ word) → place / 64 ≡ word
    → ((n : ℕ) → n / 64 ≡ word → is_set words n ≡ true → n ≤ place) → (n : ℕ) → is_set words n ≡ true → n ≤ place
last_below words tops word place are top at last n set = elim (cases_eq (n / 64) word) [
  | inl same ↦ last n same set
  | inr other ↦
      let le : n / 64 ≤ word = top (n / 64) (above_word words tops n are set) in
      let lt : n / 64 < word = elim (cases_lt (n / 64) word) [ inl lt ↦ lt | inr ge ↦ absurd (other (omega arith)) ] in
      omega (arith, div-add-mod' n 64, mod_below n 64 (omega arith), div-add-mod' place 64)
]
