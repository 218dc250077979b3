-- The owners of all blocks, of which only the first ones are written.
use Rattle.std.proofs.Common.{◌≡◌, ℕ, zero, suc, ◌<◌, ◌≤◌, ◌+◌, ◌-◌, get_or, drop, inl, inr, List, [], ◌∷◌, ◌++◌, Option, Some, None, length, replicate, slice_set, sym, ap, ◌∙◌, arith, refl, append-nil, append_assoc, length-append, length-set}
use Rattle.std.specs.Prelude.{◌⊎◌}
use Rattle.std.specs.List.{position_or_len}
use Rattle.std.specs.Option.{is_none}
use Rattle.std.proofs.lemmas.Bool.{cases_lt}
use Rattle.std.proofs.lemmas.List.{drop-append-le, get_or-append_right, get_or-replicate, get_or_append_left, get_or_past, length-replicate, replicate-append-replicate, set-append_left}
use Rattle.page_file.specs.Blocks.{all_owners}
use Rattle.vm_types.specs.declared.names.Page.{Page}

module _ (written : List (Option Page)) (blocks : ℕ) where
  pub length-all_owners : length written ≤ blocks → length (all_owners written blocks) ≡ blocks
  length-all_owners few = omega (arith, length-append written (replicate (blocks - length written) None), length-replicate {A = Option Page} (blocks - length written) None)

  -- a block that isn't written is free
  pub owner_all : (block : ℕ) → get_or (all_owners written blocks) block None ≡ get_or written block None
  owner_all block = go (cases_lt block (length written)) (cases_lt (block - length written) (blocks - length written))
    where
      go : (block < length written) ⊎ (length written ≤ block) → (block - length written < blocks - length written) ⊎ (blocks - length written ≤ block - length written) → get_or (all_owners written blocks) block None ≡ get_or written block None
      go (inl within) _ = get_or_append_left written (replicate (blocks - length written) None) None block within
      go (inr past) (inl below) =
          get_or-append_right written (replicate (blocks - length written) None) (length written) block None refl past
          ∙ (get_or-replicate (blocks - length written) (block - length written) None None below
          ∙ sym (get_or_past written block None past))
      go (inr past) (inr none) =
          get_or_past (all_owners written blocks) block None (omega (arith, past, none, length-append written (replicate (blocks - length written) None), length-replicate {A = Option Page} (blocks - length written) None))
          ∙ sym (get_or_past written block None past)

  -- a block that is written is assigned, or made free
  pub all_set : (block : ℕ) (owner : Option Page) → block < length written → all_owners (slice_set written block owner) blocks ≡ slice_set (all_owners written blocks) block owner
  all_set block owner within = ap (λ n. slice_set written block owner ++ replicate (blocks - n) None) (length-set written block owner) ∙ sym (set-append_left written (replicate (blocks - length written) None) block owner within)

  -- more blocks are written to be free
  pub all_reached : (reached : ℕ) → reached ≤ blocks → length written ≤ blocks → all_owners (all_owners written reached) blocks ≡ all_owners written blocks
  all_reached reached below few =
      let before = reached - length written in
      let after = blocks - length (all_owners written reached) in
      let together : before + after ≡ blocks - length written = omega (arith, below, few, length-append written (replicate before None), length-replicate {A = Option Page} before None) in
      append_assoc written (replicate before None) (replicate after None)
      ∙ ap (λ xs. written ++ xs) (replicate-append-replicate before after None ∙ ap (λ n. replicate n None) together)

  pub all_more : length written < blocks → all_owners (written ++ None ∷ []) blocks ≡ all_owners written blocks
  all_more more =
      let after = blocks - length (written ++ None ∷ []) in
      let together : 1 + after ≡ blocks - length written = omega (arith, more, length-append written (None ∷ [])) in
      append_assoc written (None ∷ []) (replicate after None)
      ∙ ap (λ xs. written ++ xs) (replicate-append-replicate 1 after None ∙ ap (λ n. replicate n None) together)

  pub all_written : blocks ≤ length written → all_owners written blocks ≡ written
  all_written all =
      let none : blocks - length written ≡ 0 = omega arith in
      ap (λ n. written ++ replicate n None) none ∙ append-nil written

-- the same, of a list that stands for the same owners
pub set_same : (written reached : List (Option Page)) (blocks block : ℕ) (owner : Option Page) → all_owners reached blocks ≡ all_owners written blocks → block < length reached → all_owners (slice_set reached block owner) blocks ≡ slice_set (all_owners written blocks) block owner
set_same written reached blocks block owner same within = all_set reached blocks block owner within ∙ ap (λ xs. slice_set xs block owner) same

-- blocks that are free at the end don't change which place is the first free one
first_before : (written : List (Option Page)) (n : ℕ) → position_or_len is_none (written ++ replicate n None) ≡ position_or_len is_none written
first_before [] zero = refl
first_before [] (suc n) = refl
first_before (None ∷ written) n = refl
first_before (Some page ∷ written) n = ap (λ k. 1 + k) (first_before written n)

pub first_written : (written : List (Option Page)) (blocks from : ℕ) → from ≤ length written → position_or_len is_none (drop from (all_owners written blocks)) ≡ position_or_len is_none (drop from written)
first_written written blocks from within =
    ap (position_or_len is_none) (drop-append-le from written (replicate (blocks - length written) None) within)
    ∙ first_before (drop from written) (blocks - length written)
