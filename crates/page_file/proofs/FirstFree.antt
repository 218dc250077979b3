-- The first free block: where fewer are assigned than there are, it exists.
use Rattle.std.proofs.Common.{◌≡◌, ℕ, ◌<◌, ◌≤◌, ◌+◌, ◌-◌, get_or, drop, inl, inr, true, false, not, List, [], ◌∷◌, Option, Some, None, length, sym, ap, ◌∙◌, if◌then◌else◌, arith, refl}
use Rattle.std.specs.Prelude.{◌⊎◌}
use Rattle.std.specs.List.{position, position_or_len, count_by}
use Rattle.std.specs.Option.{is_some, is_none, unwrap_or}
use Rattle.std.proofs.lemmas.Bool.{cond_above, cond_below, cases_lt}
use Rattle.std.proofs.lemmas.List.Sums.{prefix_len-le-length, sum_by-cons}
use Rattle.page_file.specs.Blocks.{Blocks, IsFreeBlock, NoneFreeBelow, assigned_blocks}
use Rattle.std.proofs.lemmas.List.Sums.{fails_before_first, passes_at_first}
use Rattle.std.proofs.lemmas.List.{get_or-drop, length-drop}

-- each place before the first free one is taken
position_or_len-le-count_by : {T : Type 0} (xs : List (Option T)) → position_or_len is_none xs ≤ count_by is_some xs
position_or_len-le-count_by [] = omega arith
position_or_len-le-count_by (None ∷ xs) = omega arith
position_or_len-le-count_by (Some x ∷ xs) =
    omega (arith, position_or_len-le-count_by xs, sum_by-cons (λ o. if is_some o then 1 else 0) (Some x) xs)

is_none-true : {T : Type 0} (o : Option T) → is_none o ≡ true → o ≡ None
is_none-true None _ = refl
is_none-true (Some x) h = cc

is_none-false : {T : Type 0} (o : Option T) → is_none o ≡ false → o ≡ None → ⊥
is_none-false None h _ = cc
is_none-false (Some x) _ e = cc

-- where fewer are assigned than there are, some block is free
pub some_is_free : (blocks : Blocks) → assigned_blocks blocks < length blocks.owners → (k : ℕ) × IsFreeBlock blocks k
some_is_free blocks fewer =
    let first = position_or_len is_none blocks.owners in
    let within : first < length blocks.owners = omega (arith, position_or_len-le-count_by blocks.owners) in
    (first, record { exists = within; free = is_none-true _ (passes_at_first is_none blocks.owners None within) })

-- the first place with none is at or before any such place
first_within : {T : Type 0} (xs : List (Option T)) (k : ℕ) → k < length xs → get_or xs k None ≡ None → position_or_len is_none xs < length xs
first_within xs k within none =
    let first = position_or_len is_none xs in
    elim (cases_lt first (length xs)) [
      | inr past ↦ absurd (is_none-false _ (fails_before_first is_none xs k None (omega arith)) none)
      | inl before ↦ before
    ]

-- the first free block, from the given one on
abbrev pub first_from : Blocks → ℕ → ℕ
first_from blocks from = from + position_or_len is_none (drop from blocks.owners)

-- where none below is free
module _ (blocks : Blocks) (from : ℕ) (none_below : NoneFreeBelow blocks from) where
  pub first_is_free : assigned_blocks blocks < length blocks.owners → IsFreeBlock blocks (first_from blocks from)
  first_is_free fewer =
      let some = some_is_free blocks fewer in
      let k = some.0 in
      let after : from ≤ k = elim (cases_lt k from) [ inr le ↦ le | inl below ↦ absurd (none_below k below some.1) ] in
      let exists : k < length blocks.owners = some.1.exists in
      let there : from + (k - from) ≡ k = omega arith in
      let many = length-drop from blocks.owners in
      let none : get_or (drop from blocks.owners) (k - from) None ≡ None = rw (get_or-drop from blocks.owners (k - from) None, there) some.1.free in
      let first = position_or_len is_none (drop from blocks.owners) in
      let within : first < length (drop from blocks.owners) = first_within (drop from blocks.owners) (k - from) (omega (arith, many, exists, after)) none in
      record {
        exists = omega (arith, within, many);
        free = is_none-true _ (rw (get_or-drop from blocks.owners first None) at (passes_at_first is_none (drop from blocks.owners) None within));
      }

  pub first_is_lowest : (k : ℕ) → k < first_from blocks from → IsFreeBlock blocks k → ⊥
  first_is_lowest k below free =
      elim (cases_lt k from) [
        | inl before ↦ none_below k before free
        | inr after ↦
            let there : from + (k - from) ≡ k = omega arith in
            is_none-false _ (fails_before_first is_none (drop from blocks.owners) (k - from) None (omega arith)) (rw (get_or-drop from blocks.owners (k - from) None, there) free.free)
      ]

-- where no place has none, the first one is the one after them
pub or_length : {T : Type 0} (xs : List (Option T)) → unwrap_or (position is_none xs) (length xs) ≡ position_or_len is_none xs
or_length xs = go (cases_lt first (length xs)) (prefix_len-le-length (λ x. not (is_none x)) xs)
  where
    first : ℕ
    first = position_or_len is_none xs

    go : (first < length xs) ⊎ (length xs ≤ first) → first ≤ length xs → unwrap_or (position is_none xs) (length xs) ≡ first
    go (inl before) _ = ap (λ o. unwrap_or o (length xs)) (sym (cond_below first (length xs) (Some first) None before))
    go (inr past) most = ap (λ o. unwrap_or o (length xs)) (sym (cond_above first (length xs) (Some first) None None past refl)) ∙ omega (arith, most, past)
