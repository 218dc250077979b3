-- The blocks that aren't out, after one is taken, put back or moved.
use Rattle.std.proofs.Common.{◌≡◌, ℕ, suc, ◌+◌, ◌<◌, ◌≤◌, List, [], ◌∷◌, ◌++◌, Option, Some, None, length, slice_get, slice_set, refl, inl, inr, sym, ap, ◌∙◌, subst, arith, length-set}
use Rattle.std.specs.Prelude.{◌⊎◌, count_by, is_some, swap, swap_remove}
use Rattle.std.specs.Option.{option_map}
use Rattle.std.proofs.lemmas.Bool.{cases_eq, cases_lt}
use Rattle.std.proofs.lemmas.List.{length-append, length-map}
use Rattle.std.proofs.lemmas.Option.{none-some, same_Some, slice_get-map, slice_get_within}
use Rattle.vm_types.specs.declared.names.BlockId.{BlockId}
use Rattle.frame_store.specs.Home.{IsNoted, block_in, blocks_in}
use Rattle.frame_store.proofs.Changed.{below_last, ext_get, get_pushed, got, noted_fewer, noted_more, noted_same, removed_gap, removed_long, removed_other, swapped_first, swapped_other, swapped_second}
use Rattle.frame_store.proofs.Rows.{get_before, get_left}
use Rattle.frame_store.proofs.StoreKept.{get_set_other, get_set_same}

module _ {B : Type 0} where
  -- the place of a number that is noted as `o` has the same block in both lists
  same_block : (home new : List (BlockId × B)) (o : Option (Option ℕ)) → ((j : ℕ) → o ≡ Some (Some j) → slice_get new j ≡ slice_get home j) → option_map (block_in new) o ≡ option_map (block_in home) o
  same_block home new None same = refl
  same_block home new (Some None) same = refl
  same_block home new (Some (Some j)) same = ap (λ (o : Option (BlockId × B)). Some (option_map (λ (p : BlockId × B). p.1) o)) (same j refl)

  pub get_in : (home : List (BlockId × B)) (places : List (Option ℕ)) (n : ℕ) (o : Option ℕ) → slice_get places n ≡ Some o → slice_get (blocks_in home places) n ≡ Some (block_in home o)
  unfolding blocks_in
  get_in home places n o is = slice_get-map (block_in home) places n ∙ ap (option_map (block_in home)) is

  pub length_in : (home : List (BlockId × B)) (places : List (Option ℕ)) → length (blocks_in home places) ≡ length places
  unfolding blocks_in
  length_in home places = length-map places (block_in home)

  -- a block that isn't out has a place
  pub placed_at : (home : List (BlockId × B)) (places : List (Option ℕ)) (n : ℕ) (x : B) → slice_get (blocks_in home places) n ≡ Some (Some x) → (k : ℕ) × (slice_get places n ≡ Some (Some k))
  placed_at home places n x is = go (got places n (subst (λ m. n < m) (length_in home places) (slice_get_within (blocks_in home places) n _ is)))
    where
      go : (o : Option ℕ) × (slice_get places n ≡ Some o) → (k : ℕ) × (slice_get places n ≡ Some (Some k))
      go (None, at) = absurd (none-some x (same_Some None (Some x) (sym (get_in home places n None at) ∙ is)))
      go (Some k, at) = (k, at)

module _ {B : Type 0} {ids : List BlockId} {number : BlockId → ℕ} {home : List (BlockId × B)} {places : List (Option ℕ)} (laid : IsNoted home places ids number) where
  -- no two numbers have one place
  pub only_number : (m n k : ℕ) → slice_get places m ≡ Some (Some k) → slice_get places n ≡ Some (Some k) → m ≡ n
  only_number m n k at_m at_n =
      let first = laid.there m k at_m in
      let second = laid.there n k at_n in
      sym first.2 ∙ (ap (λ (p : BlockId × B). number p.0) (same_Some _ _ (sym first.1 ∙ second.1)) ∙ second.2)

  -- and no number has two
  pub only_place : (n j k : ℕ) → slice_get places n ≡ Some (Some j) → slice_get places n ≡ Some (Some k) → j ≡ k
  only_place n j k at_j at_k = same_Some j k (same_Some _ _ (sym at_j ∙ at_k))

  -- the block of a number that has a place
  pub block_at_place : (n k : ℕ) (p : BlockId × B) → slice_get places n ≡ Some (Some k) → slice_get home k ≡ Some p → slice_get (blocks_in home places) n ≡ Some (Some p.1)
  block_at_place n k p at here = get_in home places n (Some k) at ∙ ap (λ (o : Option (BlockId × B)). Some (option_map (λ (q : BlockId × B). q.1) o)) here

  -- a number that has no place is of a block that is out
  pub out_of_place : (n : ℕ) → slice_get (blocks_in home places) n ≡ Some None → slice_get places n ≡ Some None
  out_of_place n is = go (got places n (subst (λ m. n < m) (length_in home places) (slice_get_within (blocks_in home places) n _ is)))
    where
      go : (o : Option ℕ) × (slice_get places n ≡ Some o) → slice_get places n ≡ Some None
      go (None, at) = at
      go (Some k, at) =
          let there = laid.there n k at in
          absurd (none-some (there.0).1 (same_Some _ _ (sym is ∙ block_at_place n k there.0 at there.1)))

  -- ---- a block is taken, and the last one gets its place
  module _ (n k last : ℕ) (d p q : BlockId × B) (at : slice_get places n ≡ Some (Some k)) (here : slice_get home k ≡ Some p) (end : slice_get home last ≡ Some q) (long : length home ≡ suc last) where
    abbrev pub taken_home : List (BlockId × B)
    taken_home = swap_remove home k d

    abbrev pub taken_places : List (Option ℕ)
    taken_places = slice_set (slice_set places (number q.0) (Some k)) n None

    k_within : k < length home
    k_within = slice_get_within home k p here

    n_within : n < length places
    n_within = slice_get_within places n _ at

    at_end : slice_get places (number q.0) ≡ Some (Some last)
    at_end = laid.noted last q end

    size : length taken_home ≡ last
    size = removed_long home k last d q long k_within end

    gap : k < last → slice_get taken_home k ≡ Some q
    gap = removed_gap home k last d q long k_within end

    stays : (j : ℕ) → j < last → (j ≡ k → ⊥) → slice_get taken_home j ≡ slice_get home j
    stays = removed_other home k last d q long k_within end

    place_out : slice_get taken_places n ≡ Some None
    place_out = get_set_same (slice_set places (number q.0) (Some k)) n None (subst (λ m. n < m) (sym (length-set places (number q.0) (Some k))) n_within)

    place_end : (number q.0 ≡ n → ⊥) → slice_get taken_places (number q.0) ≡ Some (Some k)
    place_end differ =
        get_set_other (slice_set places (number q.0) (Some k)) n (number q.0) None (λ same. differ (sym same))
        ∙ get_set_same places (number q.0) (Some k) (slice_get_within places (number q.0) _ at_end)

    place_other : (m : ℕ) → (m ≡ n → ⊥) → (m ≡ number q.0 → ⊥) → slice_get taken_places m ≡ slice_get places m
    place_other m from_n from_end =
        get_set_other (slice_set places (number q.0) (Some k)) n m None (λ same. from_n (sym same))
        ∙ get_set_other places (number q.0) m (Some k) (λ same. from_end (sym same))

    -- the last one gets the place, if it isn't the one that is taken
    before_end : (number q.0 ≡ n → ⊥) → k < last
    before_end differ = below_last k last (omega (arith, k_within, long)) (λ same. differ (only_number (number q.0) n last at_end (subst (λ j. slice_get places n ≡ Some (Some j)) same at)))

    not_end : k < last → number q.0 ≡ n → ⊥
    not_end below same = let one = only_place n k last at (subst (λ m. slice_get places m ≡ Some (Some last)) same at_end) in omega (arith, below, one)

    -- another place that is noted has the same block
    others : (m j : ℕ) → (m ≡ n → ⊥) → (m ≡ number q.0 → ⊥) → slice_get places m ≡ Some (Some j) → slice_get taken_home j ≡ slice_get home j
    others m j from_n from_end is =
        let there = laid.there m j is in
        let within = slice_get_within home j there.0 there.1 in
        stays j (below_last j last (omega (arith, within, long)) (λ same. from_end (only_number m (number q.0) last (subst (λ i. slice_get places m ≡ Some (Some i)) same is) at_end)))
        (λ same. from_n (only_number m n k (subst (λ i. slice_get places m ≡ Some (Some i)) same is) at))

    pub taken_blocks : blocks_in taken_home taken_places ≡ slice_set (blocks_in home places) n None
    unfolding blocks_in
    taken_blocks = ext_get _ _ (λ m. slice_get-map (block_in taken_home) taken_places m ∙ go m (cases_eq m n) (cases_eq m (number q.0)))
      where
        go : (m : ℕ) → (m ≡ n) ⊎ (m ≡ n → ⊥) → (m ≡ number q.0) ⊎ (m ≡ number q.0 → ⊥) → option_map (block_in taken_home) (slice_get taken_places m) ≡ slice_get (slice_set (blocks_in home places) n None) m
        go m (inl same) end_or =
            subst (λ i. option_map (block_in taken_home) (slice_get taken_places i) ≡ slice_get (slice_set (blocks_in home places) n None) i) (sym same)
            (ap (option_map (block_in taken_home)) place_out ∙ sym (get_set_same (blocks_in home places) n None (subst (λ i. n < i) (sym (length_in home places)) n_within)))
        go m (inr differ) (inl same) =
            let apart : number q.0 ≡ n → ⊥ = λ equal. differ (same ∙ equal) in
            subst (λ i. option_map (block_in taken_home) (slice_get taken_places i) ≡ slice_get (slice_set (blocks_in home places) n None) i) (sym same)
            (ap (option_map (block_in taken_home)) (place_end apart)
            ∙ (ap (λ (o : Option (BlockId × B)). Some (option_map (λ (r : BlockId × B). r.1) o)) (gap (before_end apart))
            ∙ sym (get_set_other (blocks_in home places) n (number q.0) None (λ equal. apart (sym equal)) ∙ block_at_place (number q.0) last q at_end end)))
        go m (inr differ) (inr other) =
            ap (option_map (block_in taken_home)) (place_other m differ other)
            ∙ (same_block home taken_home (slice_get places m) (λ j is. others m j differ other is)
            ∙ sym (get_set_other (blocks_in home places) n m None (λ equal. differ (sym equal)) ∙ slice_get-map (block_in home) places m))

    -- each block that is left is the last one at its new place, or lies where it lay
    abbrev Lies : ℕ → BlockId × B → Type 0
    Lies j r = ((j ≡ k) × (k < last) × (r ≡ q)) ⊎ ((j < last) × (j ≡ k → ⊥) × (slice_get home j ≡ Some r))

    lies : (j : ℕ) (r : BlockId × B) → slice_get taken_home j ≡ Some r → Lies j r
    lies j r is = go (cases_eq j k)
      where
        below : j < last
        below = subst (λ i. j < i) size (slice_get_within taken_home j r is)

        go : (j ≡ k) ⊎ (j ≡ k → ⊥) → Lies j r
        go (inl same) =
            let within : k < last = subst (λ i. i < last) same below in
            inl (same, within, same_Some r q (sym is ∙ (ap (slice_get taken_home) same ∙ gap within)))
        go (inr differ) = inr (below, differ, sym (stays j below differ) ∙ is)

    pub taken_laid : IsNoted taken_home taken_places ids number
    taken_laid = record { noted = λ j r is. noted j r (lies j r is); listed = λ j r is. listed j r (lies j r is); there = λ m j is. there m j is (cases_eq m n) (cases_eq m (number q.0)) }
      where
        noted : (j : ℕ) (r : BlockId × B) → Lies j r → slice_get taken_places (number r.0) ≡ Some (Some j)
        noted j r (inl here_now) =
            subst (λ (s : BlockId × B). slice_get taken_places (number s.0) ≡ Some (Some j)) (sym here_now.2)
            (place_end (not_end here_now.1) ∙ ap (λ i. Some (Some i)) (sym here_now.0))
        noted j r (inr as_before) =
            let was = laid.noted j r as_before.2 in
            let below = as_before.0 in
            place_other (number r.0) (λ same. as_before.1 (only_place n j k (subst (λ m. slice_get places m ≡ Some (Some j)) same was) at))
            (λ same. let one = only_place (number q.0) j last (subst (λ m. slice_get places m ≡ Some (Some j)) same was) at_end in omega (arith, below, one))
            ∙ was

        listed : (j : ℕ) (r : BlockId × B) → Lies j r → slice_get ids (number r.0) ≡ Some r.0
        listed j r (inl here_now) = subst (λ (s : BlockId × B). slice_get ids (number s.0) ≡ Some s.0) (sym here_now.2) (laid.listed last q end)
        listed j r (inr as_before) = laid.listed j r as_before.2

        there : (m j : ℕ) → slice_get taken_places m ≡ Some (Some j) → (m ≡ n) ⊎ (m ≡ n → ⊥) → (m ≡ number q.0) ⊎ (m ≡ number q.0 → ⊥) → (r : BlockId × B) × (slice_get taken_home j ≡ Some r) × (number r.0 ≡ m)
        there m j is (inl same) end_or = absurd (none-some j (same_Some _ _ (sym place_out ∙ (ap (slice_get taken_places) (sym same) ∙ is))))
        there m j is (inr differ) (inl same) =
            let apart : number q.0 ≡ n → ⊥ = λ equal. differ (same ∙ equal) in
            let one : k ≡ j = same_Some k j (same_Some _ _ (sym (place_end apart) ∙ (ap (slice_get taken_places) (sym same) ∙ is))) in
            (q, ap (slice_get taken_home) (sym one) ∙ gap (before_end apart), sym same)
        there m j is (inr differ) (inr other) =
            let was = sym (place_other m differ other) ∙ is in
            let found = laid.there m j was in
            (found.0, others m j differ other was ∙ found.1, found.2)

    pub taken_many : length taken_places ≡ length places
    taken_many = length-set (slice_set places (number q.0) (Some k)) n None ∙ length-set places (number q.0) (Some k)

    pub taken_count : length home ≡ count_by is_some places → length taken_home ≡ count_by is_some taken_places
    taken_count count =
        let same = noted_same places (number q.0) (Some last) at_end k refl in
        let fewer = go (cases_eq (number q.0) n) in
        omega (arith, count, size, long, same, fewer)
      where
        go : (number q.0 ≡ n) ⊎ (number q.0 ≡ n → ⊥) → count_by is_some taken_places + 1 ≡ count_by is_some (slice_set places (number q.0) (Some k))
        go (inl same) =
            noted_fewer (slice_set places (number q.0) (Some k)) n (Some k)
            (subst (λ m. slice_get (slice_set places (number q.0) (Some k)) m ≡ Some (Some k)) same (get_set_same places (number q.0) (Some k) (slice_get_within places (number q.0) _ at_end))) refl
        go (inr differ) = noted_fewer (slice_set places (number q.0) (Some k)) n (Some k) (get_set_other places (number q.0) n (Some k) differ ∙ at) refl

  -- ---- a block is put back at the end
  module _ (n : ℕ) (b : BlockId) (x : B) (out : slice_get places n ≡ Some None) (named : slice_get ids n ≡ Some b) (numbered : number b ≡ n) where
    abbrev pub put_home : List (BlockId × B)
    put_home = home ++ (b, x) ∷ []

    abbrev pub put_places : List (Option ℕ)
    put_places = slice_set places n (Some (length home))

    place_put : slice_get put_places n ≡ Some (Some (length home))
    place_put = get_set_same places n (Some (length home)) (slice_get_within places n None out)

    kept : (m : ℕ) → (m ≡ n → ⊥) → slice_get put_places m ≡ slice_get places m
    kept m differ = get_set_other places n m (Some (length home)) (λ same. differ (sym same))

    left : (j : ℕ) (r : BlockId × B) → slice_get home j ≡ Some r → slice_get put_home j ≡ Some r
    left j r is = get_left home ((b, x) ∷ []) j r is

    last_put : slice_get put_home (length home) ≡ Some (b, x)
    last_put = get_pushed home (b, x)

    pub put_blocks : blocks_in put_home put_places ≡ slice_set (blocks_in home places) n (Some x)
    unfolding blocks_in
    put_blocks = ext_get _ _ (λ m. slice_get-map (block_in put_home) put_places m ∙ go m (cases_eq m n))
      where
        go : (m : ℕ) → (m ≡ n) ⊎ (m ≡ n → ⊥) → option_map (block_in put_home) (slice_get put_places m) ≡ slice_get (slice_set (blocks_in home places) n (Some x)) m
        go m (inl same) =
            subst (λ i. option_map (block_in put_home) (slice_get put_places i) ≡ slice_get (slice_set (blocks_in home places) n (Some x)) i) (sym same)
            (ap (option_map (block_in put_home)) place_put
            ∙ (ap (λ (o : Option (BlockId × B)). Some (option_map (λ (r : BlockId × B). r.1) o)) last_put
            ∙ sym (get_set_same (blocks_in home places) n (Some x) (subst (λ i. n < i) (sym (length_in home places)) (slice_get_within places n None out)))))
        go m (inr differ) =
            ap (option_map (block_in put_home)) (kept m differ)
            ∙ (same_block home put_home (slice_get places m) (λ j is. let there = laid.there m j is in left j there.0 there.1 ∙ sym there.1)
            ∙ sym (get_set_other (blocks_in home places) n m (Some x) (λ equal. differ (sym equal)) ∙ slice_get-map (block_in home) places m))

    abbrev Stands : ℕ → BlockId × B → Type 0
    Stands j r = ((j ≡ length home) × (r ≡ (b, x))) ⊎ (slice_get home j ≡ Some r)

    stands : (j : ℕ) (r : BlockId × B) → slice_get put_home j ≡ Some r → Stands j r
    stands j r is = go (cases_lt j (length home))
      where
        go : (j < length home) ⊎ (length home ≤ j) → Stands j r
        go (inl below) = inr (get_before home ((b, x) ∷ []) j r below is)
        go (inr past) =
            let within = slice_get_within put_home j r is in
            let size = length-append home ((b, x) ∷ []) in
            let same : j ≡ length home = omega (arith, past, within, size) in
            inl (same, same_Some r (b, x) (sym is ∙ (ap (slice_get put_home) same ∙ last_put)))

    pub put_laid : IsNoted put_home put_places ids number
    put_laid = record { noted = λ j r is. noted j r (stands j r is); listed = λ j r is. listed j r (stands j r is); there = λ m j is. there m j is (cases_eq m n) }
      where
        noted : (j : ℕ) (r : BlockId × B) → Stands j r → slice_get put_places (number r.0) ≡ Some (Some j)
        noted j r (inl new) =
            subst (λ (s : BlockId × B). slice_get put_places (number s.0) ≡ Some (Some j)) (sym new.1)
            (ap (slice_get put_places) numbered ∙ (place_put ∙ ap (λ i. Some (Some i)) (sym new.0)))
        noted j r (inr old) =
            let was = laid.noted j r old in
            kept (number r.0) (λ same. none-some j (same_Some _ _ (sym out ∙ (ap (slice_get places) (sym same) ∙ was)))) ∙ was

        listed : (j : ℕ) (r : BlockId × B) → Stands j r → slice_get ids (number r.0) ≡ Some r.0
        listed j r (inl new) = subst (λ (s : BlockId × B). slice_get ids (number s.0) ≡ Some s.0) (sym new.1) (ap (slice_get ids) numbered ∙ named)
        listed j r (inr old) = laid.listed j r old

        there : (m j : ℕ) → slice_get put_places m ≡ Some (Some j) → (m ≡ n) ⊎ (m ≡ n → ⊥) → (r : BlockId × B) × (slice_get put_home j ≡ Some r) × (number r.0 ≡ m)
        there m j is (inl same) =
            let one : length home ≡ j = same_Some _ _ (same_Some _ _ (sym place_put ∙ (ap (slice_get put_places) (sym same) ∙ is))) in
            ((b, x), ap (slice_get put_home) (sym one) ∙ last_put, numbered ∙ sym same)
        there m j is (inr differ) =
            let found = laid.there m j (sym (kept m differ) ∙ is) in
            (found.0, left j found.0 found.1, found.2)

    pub put_many : length put_places ≡ length places
    put_many = length-set places n (Some (length home))

    pub put_count : length home ≡ count_by is_some places → length put_home ≡ count_by is_some put_places
    put_count count =
        let more = noted_more places n None out (length home) refl in
        let size = length-append home ((b, x) ∷ []) in
        omega (arith, count, more, size)

  -- ---- the block of number n and the one at place n swap places
  module _ (n k : ℕ) (q : BlockId × B) (at : slice_get places n ≡ Some (Some k)) (first : slice_get home n ≡ Some q) where
    abbrev pub moved_home : List (BlockId × B)
    moved_home = swap home n k

    abbrev pub moved_places : List (Option ℕ)
    moved_places = swap places n (number q.0)

    block : (p : BlockId × B) × (slice_get home k ≡ Some p) × (number p.0 ≡ n)
    block = laid.there n k at

    at_first : slice_get places (number q.0) ≡ Some (Some n)
    at_first = laid.noted n q first

    home_n : slice_get moved_home n ≡ Some block.0
    home_n = swapped_first home n k q block.0 first block.1

    home_k : slice_get moved_home k ≡ Some q
    home_k = swapped_second home n k q block.0 first block.1

    home_other : (j : ℕ) → (j ≡ n → ⊥) → (j ≡ k → ⊥) → slice_get moved_home j ≡ slice_get home j
    home_other = swapped_other home n k q block.0 first block.1

    pub place_n : slice_get moved_places n ≡ Some (Some n)
    place_n = swapped_first places n (number q.0) (Some k) (Some n) at at_first

    place_q : slice_get moved_places (number q.0) ≡ Some (Some k)
    place_q = swapped_second places n (number q.0) (Some k) (Some n) at at_first

    pub places_other : (m : ℕ) → (m ≡ n → ⊥) → (m ≡ number q.0 → ⊥) → slice_get moved_places m ≡ slice_get places m
    places_other = swapped_other places n (number q.0) (Some k) (Some n) at at_first

    same_there : (m j : ℕ) → (m ≡ n → ⊥) → (m ≡ number q.0 → ⊥) → slice_get places m ≡ Some (Some j) → slice_get moved_home j ≡ slice_get home j
    same_there m j from_n from_q is =
        home_other j (λ same. from_q (only_number m (number q.0) n (subst (λ i. slice_get places m ≡ Some (Some i)) same is) at_first))
        (λ same. from_n (only_number m n k (subst (λ i. slice_get places m ≡ Some (Some i)) same is) at))

    pub moved_blocks : blocks_in moved_home moved_places ≡ blocks_in home places
    unfolding blocks_in
    moved_blocks = ext_get _ _ (λ m. slice_get-map (block_in moved_home) moved_places m ∙ go m (cases_eq m n) (cases_eq m (number q.0)))
      where
        go : (m : ℕ) → (m ≡ n) ⊎ (m ≡ n → ⊥) → (m ≡ number q.0) ⊎ (m ≡ number q.0 → ⊥) → option_map (block_in moved_home) (slice_get moved_places m) ≡ slice_get (blocks_in home places) m
        go m (inl same) q_or =
            subst (λ i. option_map (block_in moved_home) (slice_get moved_places i) ≡ slice_get (blocks_in home places) i) (sym same)
            (ap (option_map (block_in moved_home)) place_n
            ∙ (ap (λ (o : Option (BlockId × B)). Some (option_map (λ (r : BlockId × B). r.1) o)) home_n
            ∙ sym (block_at_place n k block.0 at block.1)))
        go m (inr differ) (inl same) =
            subst (λ i. option_map (block_in moved_home) (slice_get moved_places i) ≡ slice_get (blocks_in home places) i) (sym same)
            (ap (option_map (block_in moved_home)) place_q
            ∙ (ap (λ (o : Option (BlockId × B)). Some (option_map (λ (r : BlockId × B). r.1) o)) home_k
            ∙ sym (block_at_place (number q.0) n q at_first first)))
        go m (inr differ) (inr other) =
            ap (option_map (block_in moved_home)) (places_other m differ other)
            ∙ (same_block home moved_home (slice_get places m) (λ j is. same_there m j differ other is)
            ∙ sym (slice_get-map (block_in home) places m))

    abbrev Sits : ℕ → BlockId × B → Type 0
    Sits j r = ((j ≡ n) × (r ≡ block.0)) ⊎ (((j ≡ k) × (r ≡ q)) ⊎ ((j ≡ n → ⊥) × (j ≡ k → ⊥) × (slice_get home j ≡ Some r)))

    sits : (j : ℕ) (r : BlockId × B) → slice_get moved_home j ≡ Some r → Sits j r
    sits j r is = go (cases_eq j n) (cases_eq j k)
      where
        go : (j ≡ n) ⊎ (j ≡ n → ⊥) → (j ≡ k) ⊎ (j ≡ k → ⊥) → Sits j r
        go (inl same) k_or = inl (same, same_Some r block.0 (sym is ∙ (ap (slice_get moved_home) same ∙ home_n)))
        go (inr differ) (inl same) = inr (inl (same, same_Some r q (sym is ∙ (ap (slice_get moved_home) same ∙ home_k))))
        go (inr differ) (inr other) = inr (inr (differ, other, sym (home_other j differ other) ∙ is))

    pub moved_laid : IsNoted moved_home moved_places ids number
    moved_laid = record { noted = λ j r is. noted j r (sits j r is); listed = λ j r is. listed j r (sits j r is); there = λ m j is. there m j is (cases_eq m n) (cases_eq m (number q.0)) }
      where
        noted : (j : ℕ) (r : BlockId × B) → Sits j r → slice_get moved_places (number r.0) ≡ Some (Some j)
        noted j r (inl at_n) =
            subst (λ (s : BlockId × B). slice_get moved_places (number s.0) ≡ Some (Some j)) (sym at_n.1)
            (ap (slice_get moved_places) block.2 ∙ (place_n ∙ ap (λ i. Some (Some i)) (sym at_n.0)))
        noted j r (inr (inl at_k)) =
            subst (λ (s : BlockId × B). slice_get moved_places (number s.0) ≡ Some (Some j)) (sym at_k.1)
            (place_q ∙ ap (λ i. Some (Some i)) (sym at_k.0))
        noted j r (inr (inr old)) =
            let was = laid.noted j r old.2 in
            places_other (number r.0) (λ same. old.1 (only_place n j k (subst (λ m. slice_get places m ≡ Some (Some j)) same was) at))
            (λ same. old.0 (only_place (number q.0) j n (subst (λ m. slice_get places m ≡ Some (Some j)) same was) at_first))
            ∙ was

        listed : (j : ℕ) (r : BlockId × B) → Sits j r → slice_get ids (number r.0) ≡ Some r.0
        listed j r (inl at_n) = subst (λ (s : BlockId × B). slice_get ids (number s.0) ≡ Some s.0) (sym at_n.1) (laid.listed k block.0 block.1)
        listed j r (inr (inl at_k)) = subst (λ (s : BlockId × B). slice_get ids (number s.0) ≡ Some s.0) (sym at_k.1) (laid.listed n q first)
        listed j r (inr (inr old)) = laid.listed j r old.2

        there : (m j : ℕ) → slice_get moved_places m ≡ Some (Some j) → (m ≡ n) ⊎ (m ≡ n → ⊥) → (m ≡ number q.0) ⊎ (m ≡ number q.0 → ⊥) → (r : BlockId × B) × (slice_get moved_home j ≡ Some r) × (number r.0 ≡ m)
        there m j is (inl same) q_or =
            let one : n ≡ j = same_Some _ _ (same_Some _ _ (sym place_n ∙ (ap (slice_get moved_places) (sym same) ∙ is))) in
            (block.0, ap (slice_get moved_home) (sym one) ∙ home_n, block.2 ∙ sym same)
        there m j is (inr differ) (inl same) =
            let one : k ≡ j = same_Some _ _ (same_Some _ _ (sym place_q ∙ (ap (slice_get moved_places) (sym same) ∙ is))) in
            (q, ap (slice_get moved_home) (sym one) ∙ home_k, sym same)
        there m j is (inr differ) (inr other) =
            let was = sym (places_other m differ other) ∙ is in
            let found = laid.there m j was in
            (found.0, same_there m j differ other was ∙ found.1, found.2)
