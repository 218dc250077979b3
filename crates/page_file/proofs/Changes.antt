-- The blocks after one is assigned, and after one is released.
use Rattle.std.proofs.Common.{◌≡◌, ◌≢◌, ℕ, ◌<◌, ◌≤◌, ◌+◌, ◌-◌, List, Option, Some, None, IsSome, inl, inr, get_or, min, length, replicate, slice_set, subst, sym, ap, ◌∙◌, arith, length-append, length-set}
use Rattle.std.specs.Prelude.{◌⊎◌}
use Rattle.std.proofs.lemmas.Grind.{common_steps}
use Rattle.std.proofs.lemmas.Bool.{cases_eq, cases_lt}
use Rattle.std.proofs.lemmas.List.{get_or-set_other, get_or-set_same, get_or_past, length-replicate}
use Rattle.vm_types.specs.declared.names.Page.{Page}
use Rattle.page_file.specs.Blocks.{Blocks, AreBlocks, IsAssignedBlock, IsFreeBlock, NoneFreeBelow, all_owners, assigned_blocks, blocks_of, owner_of}
use Rattle.page_file.proofs.Written.{all_reached, all_set, length-all_owners, owner_all, set_same}

abbrev pub with_owner : Blocks → ℕ → Option Page → Blocks
with_owner blocks block owner = record { charged = blocks.charged; owners = slice_set blocks.owners block owner }

-- what a page file keeps of its blocks
pub record IsKept (assignments : ℕ) (blocks : Blocks) (hint : ℕ) : Type 0 where
  pub counted : assignments ≡ assigned_blocks blocks
  pub are : AreBlocks blocks
  pub below : NoneFreeBelow blocks hint

other_is_free : (blocks : Blocks) (block k : ℕ) (owner : Option Page) → k ≢ block → IsFreeBlock (with_owner blocks block owner) k → IsFreeBlock blocks k
other_is_free blocks block k owner differ is = record {
  exists = let exists = is.exists in omega (arith, exists, length-set blocks.owners block owner);
  free = sym (get_or-set_other blocks.owners block k owner None differ) ∙ is.free;
}

module _ (assignments : ℕ) (blocks : Blocks) (hint block : ℕ) (kept : IsKept assignments blocks hint) where
  module _ (page : Page) (free : IsFreeBlock blocks block) where
    pub assign_counts : assigned_blocks (with_owner blocks block (Some page)) ≡ assigned_blocks blocks + 1
    assign_counts = grind (arith, common_steps)

    -- the hint may pass the block, where it was the hint
    abbrev pub Passes : ℕ → Type 0
    Passes next = (next ≤ hint) ⊎ ((next ≡ hint + 1) × (block ≡ hint))

    none_free : (next k : ℕ) → Passes next → k < next → (k ≡ block) ⊎ (k ≢ block) → IsFreeBlock (with_owner blocks block (Some page)) k → ⊥
    none_free next k _ _ (inl same) is =
        let none : Some page ≡ None =
        sym (get_or-set_same blocks.owners block (Some page) None free.exists)
        ∙ (ap (λ n. get_or (slice_set blocks.owners block (Some page)) n None) (sym same) ∙ is.free) in
        cc
    none_free next k (inl before) below (inr differ) is = kept.below k (omega arith) (other_is_free blocks block k (Some page) differ is)
    none_free next k (inr after) below (inr differ) is = kept.below k (omega (arith, after.0, after.1, below, differ)) (other_is_free blocks block k (Some page) differ is)

    pub assign_keeps : (next : ℕ) → assigned_blocks blocks < blocks.charged → Passes next → IsKept (assignments + 1) (with_owner blocks block (Some page)) next
    assign_keeps next fewer passes =
        let charged = kept.are.charged in
        let numbered = kept.are.numbered in
        let same = length-set blocks.owners block (Some page) in
        record {
          counted = ap (λ n. n + 1) kept.counted ∙ sym assign_counts;
          are = record {
            assigned = omega (arith, assign_counts, fewer);
            charged = omega (arith, charged, same);
            numbered = omega (arith, numbered, same);
          };
          below = λ k below is. none_free next k passes below (cases_eq k block) is;
        }

  module _ (assigned : IsAssignedBlock blocks block) where
    pub release_counts : assigned_blocks (with_owner blocks block None) + 1 ≡ assigned_blocks blocks
    release_counts = grind (arith, common_steps)

    pub release_keeps : (next : ℕ) → next ≡ min hint block → IsKept (assignments - 1) (with_owner blocks block None) next
    release_keeps next is_next =
        let counted = kept.counted in
        let most = kept.are.assigned in
        let charged = kept.are.charged in
        let numbered = kept.are.numbered in
        let same = length-set blocks.owners block None in
        record {
          counted = omega (arith, counted, release_counts);
          are = record {
            assigned = omega (arith, release_counts, most);
            charged = omega (arith, charged, same);
            numbered = omega (arith, numbered, same);
          };
          below = λ k below is. kept.below k (omega (arith, below, is_next)) (other_is_free blocks block k None (λ at. omega (arith, at, below, is_next)) is);
        }

none_is_none : (owner : Option Page) → IsSome owner → owner ≡ None → ⊥
none_is_none None some _ = grind arith
none_is_none (Some page) _ none = cc

view_set : (charges : ℕ) (owners before : List (Option Page)) (now : Blocks) (block : ℕ) (owner : Option Page) → owners ≡ slice_set before block owner → record { charged = charges; owners = before } ≡ now → record { charged = charges; owners = owners } ≡ with_owner now block owner
view_set charges owners before now block owner is_set is_view =
    ap (λ (xs : List (Option Page)). record { charged = charges; owners = xs }) is_set ∙ ap (λ (b : Blocks). with_owner b block owner) is_view

-- a page file after one of its blocks changed
pub record IsChanged (assignments charges count hint : ℕ) (written : List (Option Page)) (after : Blocks) : Type 0 where
  pub view : blocks_of charges written count ≡ after
  pub kept : IsKept assignments (blocks_of charges written count) hint
  pub few : length written ≤ count
  pub within : hint ≤ length written

module _ (assignments charges count hint : ℕ) (written : List (Option Page)) (now : Blocks) (is_view : blocks_of charges written count ≡ now) (kept : IsKept assignments (blocks_of charges written count) hint) (few : length written ≤ count) (within : hint ≤ length written) (block : ℕ) where
  kept_now : IsKept assignments now hint
  kept_now = subst (λ (b : Blocks). IsKept assignments b hint) is_view kept

  pub assign_changes : (page : Page) (reached : List (Option Page)) (next : ℕ) → reached ≡ all_owners written (block + 1) → IsFreeBlock now block → assigned_blocks now < now.charged → (next ≤ hint) ⊎ ((next ≡ hint + 1) × (block ≡ hint)) → IsChanged (assignments + 1) charges count next (slice_set reached block (Some page)) (with_owner now block (Some page))
  assign_changes page reached next is_reached free fewer passes =
      let written_now = slice_set reached block (Some page) in
      let all = length-all_owners written count few in
      let exists : block < count = let e = free.exists in omega (arith, e, all, ap (λ (b : Blocks). length b.owners) is_view) in
      let many : length reached ≡ length written + (block + 1 - length written) =
      ap length is_reached ∙ (length-append written (replicate (block + 1 - length written) None) ∙ ap (λ n. length written + n) (length-replicate {A = Option Page} (block + 1 - length written) None)) in
      let same = length-set reached block (Some page) in
      let more : all_owners reached count ≡ all_owners written count = ap (λ xs. all_owners xs count) is_reached ∙ all_reached written count (block + 1) (omega (arith, exists)) few in
      let owners = set_same written reached count block (Some page) more (omega (arith, many)) in
      let view = view_set charges (all_owners written_now count) (all_owners written count) now block (Some page) owners is_view in
      record {
        view = view;
        kept = subst (λ (b : Blocks). IsKept (assignments + 1) b next) (sym view) (assign_keeps assignments now hint block kept_now page free next fewer passes);
        few = omega (arith, same, many, exists, few);
        within = elim passes [
          | inl before ↦ omega (arith, before, within, same, many)
          | inr after ↦ let first = after.0 in let second = after.1 in omega (arith, first, second, within, same, many)
        ];
      }

  pub release_changes : (next : ℕ) → next ≡ min hint block → IsAssignedBlock now block → IsChanged (assignments - 1) charges count next (slice_set written block None) (with_owner now block None)
  release_changes next is_next assigned =
      let written_now = slice_set written block None in
      let owner : owner_of now block ≡ get_or written block None = sym (ap (λ (b : Blocks). owner_of b block) is_view) ∙ owner_all written count block in
      let exists : block < length written = elim (cases_lt block (length written)) [
        | inl before ↦ before
        | inr past ↦ absurd (none_is_none (owner_of now block) assigned (owner ∙ get_or_past written block None past))
      ] in
      let same = length-set written block None in
      let view = view_set charges (all_owners written_now count) (all_owners written count) now block None (all_set written count block None exists) is_view in
      record {
        view = view;
        kept = subst (λ (b : Blocks). IsKept (assignments - 1) b next) (sym view) (release_keeps assignments now hint block kept_now assigned next is_next);
        few = omega (arith, same, few);
        within = omega (arith, same, within, is_next);
      }
