-- The blocks that aren't out, where all lie in their order, and whether one is among them.
use Rattle.std.proofs.Common.{◌≡◌, ℕ, ◌<◌, ◌≤◌, Bool, true, false, List, Option, Some, None, length, map, slice_get, slice_index_or, refl, inl, inr, sym, ap, ◌∙◌, subst, arith}
use Rattle.std.specs.Prelude.{◌⊎◌, All, IsSome, count_by, is_some}
use Rattle.std.specs.List.{range_with_len}
use Rattle.std.specs.Option.{option_map}
use Rattle.std.proofs.lemmas.Bool.{cases_lt, true≢false}
use Rattle.std.proofs.lemmas.List.{get_or_past}
use Rattle.std.proofs.lemmas.List.FromFn.{get_or-map-range_with_len, length-map-range_with_len}
use Rattle.std.proofs.lemmas.Option.{same_Some, slice_get-map, slice_get_past, slice_get_read, slice_get_within, get_or_from_slice_get}
use Rattle.vm_types.specs.declared.names.BlockId.{BlockId}
use Rattle.frame_store.specs.Blocks.{held_at, number_in}
use Rattle.frame_store.specs.Home.{IsNoted, block_in, blocks_in}
use Rattle.frame_store.specs.Numbers.{AreNumbers}
use Rattle.frame_store.proofs.Changed.{all_noted, ext_get, got}
use Rattle.frame_store.proofs.Kept.{block_at_place, get_in, length_in, placed_at}
use Rattle.frame_store.proofs.Places.{get_held, held_get, home_elsewhere, number_below, number_is}

module _ {B : Type 0} (home : List (BlockId × B)) (places : List (Option ℕ)) where
  -- the block of number m lies at place m
  abbrev pub InOrder : Type 0
  InOrder = (m : ℕ) → m < length home → slice_get places m ≡ Some (Some m)

  pub blocks_in_order : length places ≡ length home → InOrder → map (λ (p : BlockId × B). Some p.1) home ≡ blocks_in home places
  unfolding blocks_in
  blocks_in_order long order = ext_get _ _ (λ m. slice_get-map (λ (p : BlockId × B). Some p.1) home m ∙ (go m (cases_lt m (length home)) ∙ sym (slice_get-map (block_in home) places m)))
    where
      go : (m : ℕ) → (m < length home) ⊎ (length home ≤ m) → option_map (λ (p : BlockId × B). Some p.1) (slice_get home m) ≡ option_map (block_in home) (slice_get places m)
      go m (inl below) =
          let found = got home m below in
          ap (option_map (λ (p : BlockId × B). Some p.1)) found.1
          ∙ sym (ap (option_map (block_in home)) (order m below) ∙ ap (λ (o : Option (BlockId × B)). Some (option_map (λ (p : BlockId × B). p.1) o)) found.1)
      go m (inr past) =
          ap (option_map (λ (p : BlockId × B). Some p.1)) (slice_get_past home m past)
          ∙ sym (ap (option_map (block_in home)) (slice_get_past places m (omega (arith, past, long))))

  -- where no block is out, each number has a place
  pub each_placed : All IsSome (blocks_in home places) → (n : ℕ) → n < length places → (k : ℕ) × (slice_get places n ≡ Some (Some k))
  each_placed all n below = go (got (blocks_in home places) n within)
    where
      within : n < length (blocks_in home places)
      within = subst (λ m. n < m) (sym (length_in home places)) below

      go : (o : Option B) × (slice_get (blocks_in home places) n ≡ Some o) → (k : ℕ) × (slice_get places n ≡ Some (Some k))
      go (None, is) = absurd (true≢false (sym (subst IsSome (get_or_from_slice_get (blocks_in home places) n None None is) (all n None within))))
      go (Some x, is) = placed_at home places n x is

  pub as_many : All IsSome (blocks_in home places) → length home ≡ count_by is_some places → length places ≡ length home
  as_many all count = sym (all_noted places (each_placed all)) ∙ sym count

module _ {B : Type 0} {ids : List BlockId} {number : BlockId → ℕ} {home : List (BlockId × B)} {places : List (Option ℕ)} (laid : IsNoted home places ids number) where
  pub ids_in_order : length home ≡ length ids → InOrder home places → map (λ (p : BlockId × B). p.0) home ≡ ids
  ids_in_order long order = ext_get _ _ (λ m. slice_get-map (λ (p : BlockId × B). p.0) home m ∙ go m (cases_lt m (length home)))
    where
      go : (m : ℕ) → (m < length home) ⊎ (length home ≤ m) → option_map (λ (p : BlockId × B). p.0) (slice_get home m) ≡ slice_get ids m
      go m (inl below) =
          let found = laid.there m m (order m below) in
          ap (option_map (λ (p : BlockId × B). p.0)) found.1 ∙ (sym (laid.listed m found.0 found.1) ∙ ap (slice_get ids) found.2)
      go m (inr past) = ap (option_map (λ (p : BlockId × B). p.0)) (slice_get_past home m past) ∙ sym (slice_get_past ids m (omega (arith, past, long)))

  -- ---- whether a block is there
  module _ (many : length places ≡ length ids) (numbered : AreNumbers number ids) (b : BlockId) where
    all_many : length (blocks_in home places) ≡ length ids
    all_many = length_in home places ∙ many

    here : (n k : ℕ) (p : BlockId × B) → slice_get places n ≡ Some (Some k) → p ≡ slice_index_or home k p → slice_get home k ≡ Some p
    here n k p at read = let there = laid.there n k at in slice_get_read home (length home) k p refl (slice_get_within home k there.0 there.1) read

    there_is : (k : ℕ) (p : BlockId × B) → slice_get home k ≡ Some p → p.0 ≡ b → true ≡ is_some (held_at (blocks_in home places) (number_in ids b))
    there_is k p here same =
        let n = number p.0 in
        let listed : slice_get ids n ≡ Some b = laid.listed k p here ∙ ap Some same in
        let is : n ≡ number_in ids b = ap number same ∙ number_is number ids numbered b (number_below ids n b listed) in
        let held = get_held (blocks_in home places) n (Some p.1) (block_at_place laid n k p (laid.noted k p here) here) in
        sym (ap is_some (ap (held_at (blocks_in home places)) (sym is) ∙ held))

    another_is : (n k : ℕ) (p : BlockId × B) → n ≡ number b → slice_get places n ≡ Some (Some k) → slice_get home k ≡ Some p → (p.0 ≡ b → ⊥) → false ≡ is_some (held_at (blocks_in home places) (number_in ids b))
    another_is n k p is at here other =
        let there = laid.there n k at in
        let found : slice_get ids n ≡ Some p.0 = ap (slice_get ids) (sym there.2 ∙ ap (λ (q : BlockId × B). number q.0) (same_Some _ _ (sym there.1 ∙ here))) ∙ laid.listed k p here in
        home_elsewhere number ids numbered (blocks_in home places) all_many b n is (λ named. other (same_Some _ _ (sym found ∙ named)))

    pub none_is : (n : ℕ) → n ≡ number b → slice_index_or places n None ≡ None → false ≡ is_some (held_at (blocks_in home places) (number_in ids b))
    none_is n is out = sym (ap is_some (go (cases_lt (number_in ids b) (length ids))))
      where
        go : (number_in ids b < length ids) ⊎ (length ids ≤ number_in ids b) → held_at (blocks_in home places) (number_in ids b) ≡ None
        go (inl below) =
            let same : n ≡ number_in ids b = is ∙ number_is number ids numbered b below in
            let found = got places (number_in ids b) (omega (arith, below, many)) in
            let none : found.0 ≡ None = sym (get_or_from_slice_get places (number_in ids b) found.0 None found.1) ∙ (ap (λ m. slice_index_or places m None) (sym same) ∙ out) in
            get_held (blocks_in home places) (number_in ids b) None (get_in home places (number_in ids b) found.0 found.1 ∙ ap (λ o. Some (block_in home o)) none)
        go (inr past) = get_or_past (blocks_in home places) (number_in ids b) None (let long = all_many in omega (arith, past, long))

    -- the test of a name at a place that is noted
    pub has_is : (n k : ℕ) (p : BlockId × B) (same : Bool) → n ≡ number b → slice_index_or places n None ≡ Some k → p ≡ slice_index_or home k p → (same ≡ true → p.0 ≡ b) → (same ≡ false → p.0 ≡ b → ⊥)
        → same ≡ is_some (held_at (blocks_in home places) (number_in ids b))
    has_is n k p true is noted read if_same if_other = let at = held_get places n k noted in there_is k p (here n k p at read) (if_same refl)
    has_is n k p false is noted read if_same if_other = let at = held_get places n k noted in another_is n k p is at (here n k p at read) (if_other refl)

-- ---- at the start
module _ {B : Type 0} (home : List (BlockId × B)) (ids : List BlockId) (number : BlockId → ℕ) (are : map (λ (p : BlockId × B). p.0) home ≡ ids) (numbered : AreNumbers number ids) (n : ℕ) (long : length home ≡ n) where
  abbrev pub first_places : List (Option ℕ)
  first_places = map Some (range_with_len 0 n)

  pub first_long : length first_places ≡ n
  first_long = length-map-range_with_len Some 0 n

  pub first_order : InOrder home first_places
  first_order k below = slice_get_read first_places n k (Some k) (sym first_long) (omega (arith, below, long)) (sym (get_or-map-range_with_len Some 0 n k k (Some k) (omega (arith, below, long)) (omega arith)))

  name_at : (k : ℕ) (p : BlockId × B) → slice_get home k ≡ Some p → slice_get ids k ≡ Some p.0
  name_at k p is = ap (λ xs. slice_get xs k) (sym are) ∙ (slice_get-map (λ (q : BlockId × B). q.0) home k ∙ ap (option_map (λ (q : BlockId × B). q.0)) is)

  number_at : (k : ℕ) (p : BlockId × B) → slice_get home k ≡ Some p → number p.0 ≡ k
  number_at k p is = numbered k p.0 (name_at k p is)

  pub first_laid : IsNoted home first_places ids number
  first_laid = record {
    noted = λ k p is. ap (slice_get first_places) (number_at k p is) ∙ first_order k (slice_get_within home k p is);
    listed = λ k p is. ap (slice_get ids) (number_at k p is) ∙ name_at k p is;
    there = there;
  }
    where
      there : (m k : ℕ) → slice_get first_places m ≡ Some (Some k) → (p : BlockId × B) × (slice_get home k ≡ Some p) × (number p.0 ≡ m)
      there m k is =
          let within = slice_get_within first_places m (Some k) is in
          let size = first_long in
          let below : m < length home = omega (arith, within, size, long) in
          let same : m ≡ k = same_Some _ _ (same_Some _ _ (sym (first_order m below) ∙ is)) in
          let found = got home m below in
          (found.0, ap (slice_get home) (sym same) ∙ found.1, number_at m found.0 found.1)

  pub first_count : length home ≡ count_by is_some first_places
  first_count = long ∙ (sym first_long ∙ sym (all_noted first_places (λ k below. (k, first_order k (let size = first_long in omega (arith, below, size, long))))))
