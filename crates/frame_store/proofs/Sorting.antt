-- The steps of the call that puts all blocks into their order.
use Rattle.std.proofs.Common.{◌≡◌, ℕ, ◌+◌, ◌<◌, ◌≤◌, List, Option, Some, length, slice_get, slice_index_or, refl, inl, inr, sym, ap, ◌∙◌, subst, arith}
use Rattle.std.specs.Prelude.{◌⊎◌, All, IsSome, swap}
use Rattle.std.proofs.lemmas.Bool.{cases_eq, cases_lt}
use Rattle.std.proofs.lemmas.List.Edits.{length-swap}
use Rattle.std.proofs.lemmas.Option.{get_or_from_slice_get, same_Some, slice_get_read, slice_get_within}
use Rattle.vm_types.specs.declared.names.BlockId.{BlockId}
use Rattle.frame_store.specs.Home.{IsNoted, blocks_in}
use Rattle.frame_store.proofs.Kept.{moved_blocks, moved_laid, place_n, places_other}
use Rattle.frame_store.proofs.Ordered.{each_placed}

-- so many blocks lie in their order
abbrev pub AreSorted : List (Option ℕ) → ℕ → Type 0
AreSorted places n = (m : ℕ) → m < n → slice_get places m ≡ Some (Some m)

-- a block that lies in its own place stays there
pub next_kept : (places : List (Option ℕ)) (n : ℕ) → n < length places → (o : Option ℕ) (k : ℕ) → o ≡ slice_index_or places n o → o ≡ Some k → k ≡ n
    → AreSorted places n → AreSorted places (n + 1)
next_kept places n below o k read place own sorted i less = go (cases_eq i n)
  where
    here : slice_get places n ≡ Some (Some n)
    here = slice_get_read places (length places) n o refl below read ∙ ap Some (place ∙ ap Some own)

    go : (i ≡ n) ⊎ (i ≡ n → ⊥) → slice_get places i ≡ Some (Some i)
    go (inl same) = subst (λ j. slice_get places j ≡ Some (Some j)) (sym same) here
    go (inr differ) = sorted i (before (cases_lt i n))
      where
        before : (i < n) ⊎ (n ≤ i) → i < n
        before (inl low) = low
        before (inr past) = absurd (differ (omega (arith, less, past)))

module _ {B : Type 0} {ids : List BlockId} {number : BlockId → ℕ} {home : List (BlockId × B)} {places : List (Option ℕ)} (laid : IsNoted home places ids number) (n : ℕ) where
  pub next_some : All IsSome (blocks_in home places) → n < length places → (o : Option ℕ) → o ≡ slice_index_or places n o → IsSome o
  next_some all below o read =
      let placed = each_placed home places all n below in
      subst IsSome (sym (read ∙ get_or_from_slice_get places n (Some placed.0) o placed.1)) refl

  module _ (below : n < length places) (o : Option ℕ) (k : ℕ) (read : o ≡ slice_index_or places n o) (place : o ≡ Some k) where
    at : slice_get places n ≡ Some (Some k)
    at = slice_get_read places (length places) n o refl below read ∙ ap Some place

    pub next_within : k < length home
    next_within = let block = laid.there n k at in slice_get_within home k block.0 block.1

    module _ (within : n < length home) (q : BlockId × B) (first_read : q ≡ slice_index_or home n q) (m : ℕ) (other : m ≡ number q.0) where
      first : slice_get home n ≡ Some q
      first = slice_get_read home (length home) n q refl within first_read

      noted : slice_get places (number q.0) ≡ Some (Some n)
      noted = laid.noted n q first

      pub next_other : m < length places
      next_other = subst (λ i. i < length places) (sym other) (slice_get_within places (number q.0) _ noted)

      module _ (new : List (BlockId × B)) (new_places : List (Option ℕ)) (items : new ≡ swap home n k) (places_are : new_places ≡ swap places n m) where
        moved : new_places ≡ swap places n (number q.0)
        moved = places_are ∙ ap (swap places n) other

        pub next_laid : IsNoted new new_places ids number
        next_laid =
            subst (λ xs. IsNoted xs new_places ids number) (sym items)
            (subst (λ ys. IsNoted (swap home n k) ys ids number) (sym moved) (moved_laid laid n k q at first))

        pub next_blocks : blocks_in new new_places ≡ blocks_in home places
        next_blocks = (λ i. blocks_in (items i) (moved i)) ∙ moved_blocks laid n k q at first

        pub next_long : length new ≡ length home
        next_long = ap length items ∙ length-swap home n k

        pub next_many : length new_places ≡ length places
        next_many = ap length places_are ∙ length-swap places n m

        pub next_sorted : AreSorted places n → AreSorted new_places (n + 1)
        next_sorted sorted i less = ap (λ ys. slice_get ys i) moved ∙ go (cases_eq i n)
          where
            go : (i ≡ n) ⊎ (i ≡ n → ⊥) → slice_get (swap places n (number q.0)) i ≡ Some (Some i)
            go (inl same) = subst (λ j. slice_get (swap places n (number q.0)) j ≡ Some (Some j)) (sym same) (place_n laid n k q at first)
            go (inr differ) =
                let here = sorted i (below_next (cases_lt i n)) in
                places_other laid n k q at first i differ (λ equal. differ (same_Some i n (same_Some _ _ (sym here ∙ (ap (slice_get places) equal ∙ noted))))) ∙ here
              where
                below_next : (i < n) ⊎ (n ≤ i) → i < n
                below_next (inl before) = before
                below_next (inr past) = absurd (differ (omega (arith, less, past)))
