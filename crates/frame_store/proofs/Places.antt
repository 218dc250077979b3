-- What is in its place, and the number of a listed block.
use Rattle.std.proofs.Common.{◌≡◌, ℕ, ◌<◌, ◌≤◌, true, false, cond, List, Option, Some, None, length, position, slice_get, slice_index_or, refl, sym, ap, ◌∙◌, subst, inl, inr, arith}
use Rattle.std.specs.Prelude.{◌⊎◌, IsSome, is_some}
use Rattle.std.proofs.lemmas.Bool.{cases_lt, eqb-true, eq-eqb, lt-ltb, and_parts, and_from, true≢false}
use Rattle.std.proofs.lemmas.List.{get_or_past, get_or_default}
use Rattle.std.proofs.lemmas.List.Quantifiers.{position-Some}
use Rattle.std.proofs.lemmas.List.Sums.{fails_before_first}
use Rattle.std.proofs.lemmas.Option.{get_or_from_slice_get, slice_get-get_or, slice_get_within}
use Rattle.vm_types.specs.Same.{same_block}
use Rattle.vm_types.specs.declared.names.BlockId.{BlockId}
use Rattle.vm_types.specs.declared.names.BlockId.TheVariants as block
use Rattle.frame_store.specs.Blocks.{held_at, number_in}
use Rattle.frame_store.specs.Numbers.{AreNumbers}

-- ---- places
pub held_below : {X : Type 0} (places : List (Option X)) (n : ℕ) → IsSome (held_at places n) → n < length places
held_below places n some = go (cases_lt n (length places))
  where
    go : (n < length places) ⊎ (length places ≤ n) → n < length places
    go (inl below) = below
    go (inr past) = absurd (true≢false (sym (subst IsSome (get_or_past places n None past) some)))

-- a place that is read has what is held there
pub read_held : {X : Type 0} (places : List (Option X)) (n : ℕ) (x : Option X) → n < length places → x ≡ slice_index_or places n x → x ≡ held_at places n
read_held places n x below read = read ∙ get_or_default places n x None below

pub held_get : {X : Type 0} (places : List (Option X)) (n : ℕ) (x : X) → held_at places n ≡ Some x → slice_get places n ≡ Some (Some x)
held_get places n x held = slice_get-get_or places n None (held_below places n (subst IsSome (sym held) refl)) ∙ ap Some held

-- what is held there, if anything is
pub held_some : {X : Type 0} (places : List (Option X)) (n : ℕ) → IsSome (held_at places n) → (x : X) × (slice_get places n ≡ Some (Some x))
held_some {X} places n some = go (held_at places n) refl
  where
    go : (o : Option X) → held_at places n ≡ o → (x : X) × (slice_get places n ≡ Some (Some x))
    go None is = absurd (true≢false (sym (subst IsSome is some)))
    go (Some x) is = (x, held_get places n x is)

pub get_held : {X : Type 0} (places : List (Option X)) (n : ℕ) (x : Option X) → slice_get places n ≡ Some x → held_at places n ≡ x
get_held places n x there = get_or_from_slice_get places n x None there

-- ---- numbers
pub blocks_equal : (a b : BlockId) → same_block a b ≡ true → a ≡ b
blocks_equal (block.Section s x) (block.Section t y) e =
    let parts = and_parts _ _ e in
    let first = eqb-true s.0 t.0 parts.0 in
    let second = eqb-true x y parts.1 in
    λ i. block.Section (record { 0 = first i }) (second i)
blocks_equal (block.PageFile x) (block.PageFile y) e = ap block.PageFile (eqb-true x y e)
blocks_equal (block.Swap s x) (block.Swap t y) e =
    let parts = and_parts _ _ e in
    let first = eqb-true s.0 t.0 parts.0 in
    let second = eqb-true x y parts.1 in
    λ i. block.Swap (record { 0 = first i }) (second i)
blocks_equal (block.Section s x) (block.PageFile y) e = absurd (true≢false (sym e))
blocks_equal (block.Section s x) (block.Swap t y) e = absurd (true≢false (sym e))
blocks_equal (block.PageFile x) (block.Section t y) e = absurd (true≢false (sym e))
blocks_equal (block.PageFile x) (block.Swap t y) e = absurd (true≢false (sym e))
blocks_equal (block.Swap s x) (block.Section t y) e = absurd (true≢false (sym e))
blocks_equal (block.Swap s x) (block.PageFile y) e = absurd (true≢false (sym e))

pub block_itself : (b : BlockId) → same_block b b ≡ true
block_itself (block.Section s i) = and_from _ _ (eq-eqb s.0 s.0 refl) (eq-eqb i i refl)
block_itself (block.PageFile i) = eq-eqb i i refl
block_itself (block.Swap p n) = and_from _ _ (eq-eqb p.0 p.0 refl) (eq-eqb n n refl)

-- a block's number is one of its places
pub number_finds : (ids : List BlockId) (b : BlockId) → number_in ids b < length ids → slice_get ids (number_in ids b) ≡ Some b
number_finds ids b below =
    let found : position (same_block b) ids ≡ Some (number_in ids b) = ap (λ t. cond t (Some (number_in ids b)) None) (lt-ltb _ _ below) in
    let passes = (position-Some (same_block b) ids (number_in ids b) b found).1 in
    slice_get-get_or ids (number_in ids b) b below ∙ ap Some (sym (blocks_equal b _ passes))

pub number_below : (ids : List BlockId) (n : ℕ) (b : BlockId) → slice_get ids n ≡ Some b → number_in ids b < length ids
number_below ids n b there = go (cases_lt (number_in ids b) (length ids))
  where
    go : (number_in ids b < length ids) ⊎ (length ids ≤ number_in ids b) → number_in ids b < length ids
    go (inl below) = below
    go (inr past) =
        let within = slice_get_within ids n b there in
        let fails = fails_before_first (same_block b) ids n b (omega arith) in
        absurd (true≢false (sym (ap (same_block b) (get_or_from_slice_get ids n b b there) ∙ block_itself b) ∙ fails))

module _ (number : BlockId → ℕ) (ids : List BlockId) (are : AreNumbers number ids) where
  pub number_is : (b : BlockId) → number_in ids b < length ids → number b ≡ number_in ids b
  number_is b below = are (number_in ids b) b (number_finds ids b below)

  -- the places of the blocks, as many
  module _ {X : Type 0} (places : List (Option X)) (many : length places ≡ length ids) where
    pub home_elsewhere : (b : BlockId) (n : ℕ) → n ≡ number b → (slice_get ids n ≡ Some b → ⊥) → false ≡ is_some (held_at places (number_in ids b))
    home_elsewhere b n is other = go (cases_lt (number_in ids b) (length ids))
      where
        go : (number_in ids b < length ids) ⊎ (length ids ≤ number_in ids b) → false ≡ is_some (held_at places (number_in ids b))
        go (inl below) = absurd (other (subst (λ (k : ℕ). slice_get ids k ≡ Some b) (sym (is ∙ number_is b below)) (number_finds ids b below)))
        go (inr past) = sym (ap is_some (get_or_past places (number_in ids b) None (omega arith)))

    -- a block that has a place there is found by its number
    pub placed : (b : BlockId) → number_in ids b < length places → number b ≡ number_in ids b
    placed b below = number_is b (omega arith)
