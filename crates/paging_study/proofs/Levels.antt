-- The levels of a set of places, and its flags, after one place is put in or taken out.
use Rattle.std.proofs.Common.{◌≡◌, ◌≢◌, ℕ, suc, zero, ◌+◌, ◌-◌, ◌*◌, ◌/◌, ◌%◌, ◌<◌, ◌≤◌, Bool, true, false, cond, List, [], ◌∷◌, length, length-append, length-set, get_or, set, replicate, ap, sym, ◌∙◌, refl, subst, inl, inr, arith, eqb, ◌&&◌, ◌||◌, not}
use Rattle.std.specs.Int.{bit_at}
use Rattle.std.proofs.lemmas.Bool.{cases_lt, cases_eq, both_ways, eq-eqb, ne_eqb, le-ltb}
use Rattle.std.proofs.lemmas.List.{get_or_past, get_or_push, get_or_append_left, get_or-set_same, get_or-set_other, ext_get_or}
use Rattle.std.proofs.lemmas.Nat.{div_below, le-div}
use Rattle.std.proofs.lemmas.Nat.Bits.{bit_at-zero}
use Rattle.paging_study.specs.Places.{one_if, flag_at, count_places}
use Rattle.paging_study.specs.Bits.{is_set, flags_to, flags_of, AreTops, AreLevels}
use Rattle.paging_study.proofs.Counts.{count_none}
use Rattle.paging_study.proofs.Distance.{count_places-le}
use Rattle.paging_study.proofs.MarkCounts.{set_above, same_there}
use Rattle.paging_study.proofs.BitSteps.{some_bit, tops_set, tops_clear, above_word, none_below, none_in_one, in_one, last_below}

both_one : (b : Bool) → one_if b + one_if (not b) ≡ 1
both_one true = refl
both_one false = refl

length-flags_to : (test : ℕ → Bool) (n : ℕ) → length (flags_to test n) ≡ n
length-flags_to test zero = refl
length-flags_to test (suc n) = length-append (flags_to test n) (test n ∷ []) ∙ omega (arith, length-flags_to test n)

flag_below : (test : ℕ → Bool) (n i : ℕ) → i < n → get_or (flags_to test n) i false ≡ test i
flag_below test zero i below = absurd (omega arith)
flag_below test (suc n) i below = elim (cases_eq i n) [
  | inl at ↦ get_or_push (flags_to test n) (test n) false i (length-flags_to test n ∙ sym at) ∙ ap test (sym at)
  | inr other ↦
      let earlier : i < n = elim (cases_lt i n) [ inl lt ↦ lt | inr le ↦ absurd (other (omega arith)) ] in
      get_or_append_left (flags_to test n) (test n ∷ []) false i (omega (arith, length-flags_to test n)) ∙ flag_below test n i earlier
]

pub length-flags_of : (words : List ℕ) → length (flags_of words) ≡ length words * 64
length-flags_of words = length-flags_to (is_set words) (length words * 64)

-- a flag says if the bit is set
pub flag_is : (words : List ℕ) (i : ℕ) → get_or (flags_of words) i false ≡ is_set words i
flag_is words i = elim (cases_lt i (length words * 64)) [
  | inl below ↦ flag_below (is_set words) (length words * 64) i below
  | inr past ↦
      let no_word : get_or words (i / 64) 0 ≡ 0 = get_or_past words (i / 64) 0 (le-div (length words) i 64 (omega arith) past) in
      let clear : is_set words i ≡ false = ap (λ (w : ℕ). eqb (bit_at w (i % 64)) 1) no_word ∙ ap (λ (b : ℕ). eqb b 1) (bit_at-zero (i % 64)) in
      get_or_past (flags_of words) i false (omega (arith, length-flags_of words)) ∙ sym clear
]

pub word_of : (words : List ℕ) (i : ℕ) → i < length (flags_of words) → i / 64 < length words
word_of words i below = div_below i 64 (length words) (omega arith) (omega (arith, length-flags_of words))

-- a place whose flag is set
pub place_of : (words : List ℕ) (i : ℕ) → is_set words i ≡ true → i < length (flags_of words)
place_of words i there = elim (cases_lt i (length (flags_of words))) [
  | inl below ↦ below
  | inr past ↦ absurd (both_ways _ (sym (flag_is words i) ∙ get_or_past (flags_of words) i false past) there)
]

or_cond : (a b : Bool) → (a || b) ≡ cond b true a
or_cond true true = refl
or_cond true false = refl
or_cond false true = refl
or_cond false false = refl

and_cond : (a b : Bool) → (a && not b) ≡ cond b false a
and_cond true true = refl
and_cond true false = refl
and_cond false true = refl
and_cond false false = refl

-- one bit changes, one flag changes
module _ (words words' : List ℕ) (n : ℕ) (within : n < length (flags_of words)) (len : length words' ≡ length words) where
  flags_change : (flag : Bool) → ((m : ℕ) → is_set words' m ≡ cond (eqb m n) flag (is_set words m)) → flags_of words' ≡ set (flags_of words) n flag
  flags_change flag bits =
      let lengths : length (set (flags_of words) n flag) ≡ length (flags_of words) = length-set (flags_of words) n flag in
      ext_get_or false (flags_of words') (set (flags_of words) n flag) (omega (arith, lengths, length-flags_of words, length-flags_of words')) (λ i _. flag_is words' i ∙ (bits i ∙ (elim (cases_eq i n) [
        | inl at ↦ rw (eq-eqb i n at, at) (sym (get_or-set_same (flags_of words) n flag false within))
        | inr other ↦ rw (ne_eqb i n other) (sym (flag_is words i) ∙ sym (get_or-set_other (flags_of words) n i flag false other))
      ])))

  pub flags_set : ((m : ℕ) → is_set words' m ≡ (is_set words m || eqb m n)) → flags_of words' ≡ set (flags_of words) n true
  flags_set bits = flags_change true (λ m. bits m ∙ or_cond (is_set words m) (eqb m n))

  pub flags_clear : ((m : ℕ) → is_set words' m ≡ (is_set words m && not (eqb m n))) → flags_of words' ≡ set (flags_of words) n false
  flags_clear bits = flags_change false (λ m. bits m ∙ and_cond (is_set words m) (eqb m n))

-- and the count by one
count_after : (flags flags' : List Bool) (n : ℕ) (flag : Bool) → n < length flags → flags' ≡ set flags n flag
    → count_places (flag_at flags') (length flags') + one_if (get_or flags n false) ≡ count_places (flag_at flags) (length flags) + one_if flag
count_after flags flags' n flag within is =
    let same : count_places (flag_at (set flags n flag)) (length (set flags n flag)) ≡ count_places (flag_at (set flags n flag)) (length flags) = ap (λ (k : ℕ). count_places (flag_at (set flags n flag)) k) (length-set flags n flag) in
    subst (λ (xs : List Bool). count_places (flag_at xs) (length xs) + one_if (get_or flags n false) ≡ count_places (flag_at flags) (length flags) + one_if flag) (sym is)
    (omega (arith, same, set_above flags n flag (length flags) within within))

-- what setting a bit does, and what clearing one does
pub record Sets (words words' : List ℕ) (n : ℕ) : Type 0 where
  pub bits : (m : ℕ) → is_set words' m ≡ (is_set words m || eqb m n)
  pub others : (g : ℕ) → g ≢ n / 64 → get_or words' g 0 ≡ get_or words g 0
  pub some : 0 < get_or words' (n / 64) 0
  pub len : length words' ≡ length words

pub record Clears (words words' : List ℕ) (n : ℕ) (leaves empty : Bool) : Type 0 where
  pub bits : (m : ℕ) → is_set words' m ≡ (is_set words m && not (leaves && eqb m n))
  pub others : (g : ℕ) → g ≢ n / 64 → get_or words' g 0 ≡ get_or words g 0
  pub stays : leaves ≡ false → words' ≡ words
  pub is_empty : empty ≡ (leaves && eqb (get_or words' (n / 64) 0) 0)
  pub len : length words' ≡ length words

module _ (words tops roots crowns : List ℕ) (count n : ℕ) (levels : AreLevels words tops roots crowns count) where
  -- the word of the place, and the words of the bits above
  pub top_of : n / 64 < length words → n / 64 / 64 < length tops
  top_of within = div_below (n / 64) 64 (length tops) (omega arith) (omega (arith, levels.tops_len))

  pub root_of : n / 64 < length words → n / 64 / 64 / 64 < length roots
  root_of within = div_below (n / 64 / 64) 64 (length roots) (omega arith) (omega (arith, top_of within, levels.roots_len))

  pub crown_of : n / 64 < length words → n / 64 / 64 / 64 / 64 < length crowns
  crown_of within = div_below (n / 64 / 64 / 64) 64 (length crowns) (omega arith) (omega (arith, root_of within, levels.crowns_len))

  -- few places
  pub few : count ≤ 16777216
  few = omega (arith, levels.count_is, count_places-le (flag_at (flags_of words)) (length (flags_of words)), length-flags_of words, levels.tops_len, levels.roots_len, levels.crowns_len, levels.one_crown)

  pub inserted : (words' tops' roots' crowns' : List ℕ) → Sets words words' n → Sets tops tops' (n / 64) → Sets roots roots' (n / 64 / 64) → Sets crowns crowns' (n / 64 / 64 / 64) → n < length (flags_of words) → (count' : ℕ) → count' ≡ count + one_if (not (is_set words n)) → AreLevels words' tops' roots' crowns' count'
  inserted words' tops' roots' crowns' low mid top crown within count' is =
      let flag : one_if (get_or (flags_of words) n false) ≡ one_if (is_set words n) = ap one_if (flag_is words n) in
      let change = count_after (flags_of words) (flags_of words') n true within (flags_set words words' n within low.len low.bits) in
      record {
        tops_are = tops_set words tops words' tops' (n / 64) levels.tops_are low.others low.some mid.bits;
        roots_are = tops_set tops roots tops' roots' (n / 64 / 64) levels.roots_are mid.others mid.some top.bits;
        crowns_are = tops_set roots crowns roots' crowns' (n / 64 / 64 / 64) levels.crowns_are top.others top.some crown.bits;
        count_is = omega (arith, levels.count_is, flag, change, both_one (is_set words n));
        tops_len = omega (arith, levels.tops_len, low.len, mid.len);
        roots_len = omega (arith, levels.roots_len, mid.len, top.len);
        crowns_len = omega (arith, levels.crowns_len, top.len, crown.len);
        one_crown = omega (arith, levels.one_crown, crown.len);
      }

  pub had : is_set words n ≡ true → n < length (flags_of words) → 1 ≤ count
  had there within =
      let flag : one_if (get_or (flags_of words) n false) ≡ 1 = ap one_if (flag_is words n ∙ there) in
      let change = count_after (flags_of words) (set (flags_of words) n false) n false within refl in
      omega (arith, levels.count_is, flag, change)

  pub taken : (words' tops' roots' crowns' : List ℕ) (empty empty' empty'' empty''' : Bool) → Clears words words' n true empty → Clears tops tops' (n / 64) empty empty' → Clears roots roots' (n / 64 / 64) empty' empty''
      → Clears crowns crowns' (n / 64 / 64 / 64) empty'' empty''' → is_set words n ≡ true → AreLevels words' tops' roots' crowns' (count - 1)
  taken words' tops' roots' crowns' empty empty' empty'' empty''' low mid top crown there =
      let within : n < length (flags_of words) = place_of words n there in
      let flag : one_if (get_or (flags_of words) n false) ≡ 1 = ap one_if (flag_is words n ∙ there) in
      let change = count_after (flags_of words) (flags_of words') n false within (flags_clear words words' n within low.len low.bits) in
      let above : is_set tops (n / 64) ≡ true = above_word words tops n levels.tops_are there in
      let higher : is_set roots (n / 64 / 64) ≡ true = above_word tops roots (n / 64) levels.roots_are above in
      record {
        tops_are = tops_clear words tops words' tops' (n / 64) levels.tops_are low.others true empty (λ no. ap (λ (ws : List ℕ). get_or ws (n / 64) 0) (low.stays no)) (some_bit words n there) low.is_empty mid.bits;
        roots_are = tops_clear tops roots tops' roots' (n / 64 / 64) levels.roots_are mid.others empty empty' (λ no. ap (λ (ws : List ℕ). get_or ws (n / 64 / 64) 0) (mid.stays no)) (some_bit tops (n / 64) above) mid.is_empty top.bits;
        crowns_are = tops_clear roots crowns roots' crowns' (n / 64 / 64 / 64) levels.crowns_are top.others empty' empty'' (λ no. ap (λ (ws : List ℕ). get_or ws (n / 64 / 64 / 64) 0) (top.stays no)) (some_bit roots (n / 64 / 64) higher) top.is_empty crown.bits;
        count_is = omega (arith, levels.count_is, flag, change);
        tops_len = omega (arith, levels.tops_len, low.len, mid.len);
        roots_len = omega (arith, levels.roots_len, mid.len, top.len);
        crowns_len = omega (arith, levels.crowns_len, top.len, crown.len);
        one_crown = omega (arith, levels.one_crown, crown.len);
      }

-- the way down to the last place
module _ (words tops roots crowns : List ℕ) (count : ℕ) (levels : AreLevels words tops roots crowns count) where
  pub crown_some : 0 < count_places (flag_at (flags_of words)) (length (flags_of words)) → 0 < get_or crowns 0 0
  crown_some some = elim (cases_lt 0 (get_or crowns 0 0)) [
    | inl more ↦ more
    | inr none ↦
        let no_roots : (g : ℕ) → is_set roots g ≡ false = none_below roots crowns levels.crowns_are (none_in_one crowns levels.one_crown (omega arith)) in
        let no_tops : (g : ℕ) → is_set tops g ≡ false = none_below tops roots levels.roots_are no_roots in
        let no_words : (n : ℕ) → is_set words n ≡ false = none_below words tops levels.tops_are no_tops in
        let no_places : count_places (flag_at (flags_of words)) (length (flags_of words)) ≡ 0 = count_none (flag_at (flags_of words)) (length (flags_of words)) (λ i _. flag_is words (suc i - 1) ∙ no_words (suc i - 1)) in
        absurd (omega arith)
  ]

  pub last_of_all : (root top word last : ℕ) → ((n : ℕ) → n / 64 ≡ 0 → is_set crowns n ≡ true → n ≤ root)
      → top / 64 ≡ root → ((n : ℕ) → n / 64 ≡ root → is_set roots n ≡ true → n ≤ top)
      → word / 64 ≡ top → ((n : ℕ) → n / 64 ≡ top → is_set tops n ≡ true → n ≤ word)
      → last / 64 ≡ word → ((n : ℕ) → n / 64 ≡ word → is_set words n ≡ true → n ≤ last)
      → (n : ℕ) → is_set words n ≡ true → n ≤ last
  last_of_all root top word last last_crown top_at last_root word_at last_top last_at last_word =
      last_below words tops word last levels.tops_are
      (last_below tops roots top word levels.roots_are
      (last_below roots crowns root top levels.crowns_are (λ g there. last_crown g (in_one crowns g levels.one_crown there) there) top_at last_root)
      word_at last_top)
      last_at last_word

-- with no bit set
pub none_set : (m n : ℕ) → is_set (replicate m 0) n ≡ false
none_set m n = ap (λ (w : ℕ). eqb (bit_at w (n % 64)) 1) (same_there m (n / 64) 0) ∙ ap (λ (b : ℕ). eqb b 1) (bit_at-zero (n % 64))

no_tops : (a b : ℕ) → AreTops (replicate a 0) (replicate b 0)
no_tops a b g = none_set b g ∙ sym (le-ltb 0 (get_or (replicate a 0) g 0) (omega (arith, same_there a g 0)))

pub none_yet : (words tops roots crowns : List ℕ) (a b c d : ℕ) → words ≡ replicate a 0 → tops ≡ replicate b 0 → roots ≡ replicate c 0 → crowns ≡ replicate d 0
    → length words ≤ length tops * 64 → length tops ≤ length roots * 64 → length roots ≤ length crowns * 64 → length crowns ≡ 1 → AreLevels words tops roots crowns 0
none_yet words tops roots crowns a b c d words_are tops_are roots_are crowns_are tops_len roots_len crowns_len one_crown = record {
  tops_are = rw (words_are, tops_are) (no_tops a b);
  roots_are = rw (tops_are, roots_are) (no_tops b c);
  crowns_are = rw (roots_are, crowns_are) (no_tops c d);
  count_is = sym (count_none (flag_at (flags_of words)) (length (flags_of words)) (λ i _. flag_is words (suc i - 1) ∙ ap (λ (ws : List ℕ). is_set ws (suc i - 1)) words_are ∙ none_set a (suc i - 1)));
  tops_len = tops_len;
  roots_len = roots_len;
  crowns_len = crowns_len;
  one_crown = one_crown;
}
