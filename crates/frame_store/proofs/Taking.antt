-- The steps of a call that takes a block or puts one back, from what the calls that it makes say.
use Rattle.std.proofs.Common.{◌≡◌, ℕ, suc, ◌<◌, List, [], ◌∷◌, ◌++◌, Option, Some, None, length, slice_get, slice_set, slice_index_or, refl, sym, ap, ◌∙◌, subst, arith}
use Rattle.std.specs.Prelude.{IsSome, swap_remove}
use Rattle.std.proofs.lemmas.Option.{get_or_from_slice_get, slice_get_read, slice_get_within}
use Rattle.vm_types.specs.declared.names.BlockId.{BlockId}
use Rattle.frame_store.specs.Blocks.{held_at, number_in}
use Rattle.frame_store.specs.Home.{HomeView, IsHomeTable, blocks_in}
use Rattle.frame_store.proofs.Changed.{noted_below}
use Rattle.frame_store.proofs.Kept.{block_at_place, length_in, out_of_place, placed_at, put_blocks, put_count, put_laid, put_many, taken_blocks, taken_count, taken_laid, taken_many}
use Rattle.frame_store.proofs.Places.{get_held, held_below, held_some, number_finds, placed}

pub homes_equal : {B : Type 0} (h k : HomeView B) → h.ids ≡ k.ids → h.blocks ≡ k.blocks → h ≡ k
homes_equal h k ids blocks = λ i. record { ids = ids i; blocks = blocks i }

module _ {B : Type 0} {ids : List BlockId} {number : BlockId → ℕ} {space : ℕ} {home : List (BlockId × B)} {places : List (Option ℕ)} (kept : IsHomeTable home places ids number space) (b : BlockId) (n : ℕ) (is : n ≡ number b) where
  all_many : length (blocks_in home places) ≡ length ids
  all_many = length_in home places ∙ kept.many

  same_number : number_in ids b < length (blocks_in home places) → n ≡ number_in ids b
  same_number below = is ∙ placed number ids kept.numbered (blocks_in home places) all_many b below

  -- ---- a block is taken
  module _ (some : IsSome (held_at (blocks_in home places) (number_in ids b))) where
    there : number_in ids b < length (blocks_in home places)
    there = held_below (blocks_in home places) (number_in ids b) some

    pub take_below : n < length places
    take_below = subst (λ m. m < length places) (sym (same_number there)) (subst (λ m. number_in ids b < m) (length_in home places) there)

    place_of : (k : ℕ) × (slice_get places n ≡ Some (Some k))
    place_of =
        let held = held_some (blocks_in home places) (number_in ids b) some in
        placed_at home places n held.0 (ap (slice_get (blocks_in home places)) (same_number there) ∙ held.1)

    pub take_some : (o : Option ℕ) → o ≡ slice_index_or places n o → IsSome o
    take_some o read = subst IsSome (sym (read ∙ get_or_from_slice_get places n (Some place_of.0) o place_of.1)) refl

    module _ (o : Option ℕ) (k : ℕ) (read : o ≡ slice_index_or places n o) (place : o ≡ Some k) where
      at : slice_get places n ≡ Some (Some k)
      at = slice_get_read places (length places) n o refl take_below read ∙ ap Some place

      block : (p : BlockId × B) × (slice_get home k ≡ Some p) × (number p.0 ≡ n)
      block = kept.laid.there n k at

      pub take_within : k < length home
      take_within = slice_get_within home k block.0 block.1

      pub take_block : (x : BlockId × B) → x ≡ slice_index_or home k x → held_at (blocks_in home places) (number_in ids b) ≡ Some x.1
      take_block x value =
          ap (held_at (blocks_in home places)) (sym (same_number there))
          ∙ get_held (blocks_in home places) n (Some x.1) (block_at_place kept.laid n k x at (slice_get_read home (length home) k x refl take_within value))

      module _ (last : ℕ) (q : BlockId × B) (long : length home ≡ suc last) (last_read : q ≡ slice_index_or home last q) where
        end : slice_get home last ≡ Some q
        end = slice_get_read home (length home) last q refl (omega (arith, long)) last_read

        pub take_moved : (m : ℕ) → m ≡ number q.0 → m < length places
        take_moved m moved = subst (λ i. i < length places) (sym moved) (slice_get_within places (number q.0) _ (kept.laid.noted last q end))

        module _ (m : ℕ) (x : BlockId × B) (new : List (BlockId × B)) (moved : m ≡ number q.0) (items : new ≡ swap_remove home k x) where
          abbrev after : List (Option ℕ)
          after = slice_set (slice_set places m (Some k)) n None

          after_is : slice_set (slice_set places (number q.0) (Some k)) n None ≡ after
          after_is = ap (λ i. slice_set (slice_set places i (Some k)) n None) (sym moved)

          pub take_kept : (room : ℕ) → room ≡ space → IsHomeTable new after ids number room
          take_kept room same =
              subst (λ ys. IsHomeTable new ys ids number room) after_is
              (subst (λ xs. IsHomeTable xs (slice_set (slice_set places (number q.0) (Some k)) n None) ids number room) (sym items)
              (record {
                laid = taken_laid kept.laid n k last x block.0 q at block.1 end long;
                many = taken_many kept.laid n k last x block.0 q at block.1 end long ∙ kept.many;
                count = taken_count kept.laid n k last x block.0 q at block.1 end long kept.count;
                numbered = kept.numbered;
                room = let enough = kept.room in omega (arith, enough, same);
                few = kept.few;
              }))

          pub take_view : blocks_in new after ≡ slice_set (blocks_in home places) (number_in ids b) None
          take_view =
              (λ i. blocks_in (items i) (sym after_is i))
              ∙ (taken_blocks kept.laid n k last x block.0 q at block.1 end long
              ∙ ap (λ i. slice_set (blocks_in home places) i None) (same_number there))

  -- ---- a block is put back
  module _ (out : slice_get (blocks_in home places) (number_in ids b) ≡ Some None) where
    listed_below : number_in ids b < length (blocks_in home places)
    listed_below = slice_get_within (blocks_in home places) (number_in ids b) None out

    no_place : slice_get places n ≡ Some None
    no_place = out_of_place kept.laid n (ap (slice_get (blocks_in home places)) (same_number listed_below) ∙ out)

    named : slice_get ids n ≡ Some b
    named = ap (slice_get ids) (same_number listed_below) ∙ number_finds ids b (subst (λ m. number_in ids b < m) all_many listed_below)

    pub put_below : n < length places
    put_below = slice_get_within places n None no_place

    pub put_room : length home < space
    put_room =
        let fewer = noted_below places n no_place in
        let count = kept.count in
        let many = kept.many in
        let enough = kept.room in
        omega (arith, fewer, count, many, enough)

    module _ (x : B) (len : ℕ) (new : List (BlockId × B)) (long : len ≡ length home) (items : new ≡ home ++ (b, x) ∷ []) where
      pub put_kept : (room : ℕ) → room ≡ space → IsHomeTable new (slice_set places n (Some len)) ids number room
      put_kept room same =
          subst (λ ys. IsHomeTable new ys ids number room) (ap (λ i. slice_set places n (Some i)) (sym long))
          (subst (λ xs. IsHomeTable xs (slice_set places n (Some (length home))) ids number room) (sym items)
          (record {
            laid = put_laid kept.laid n b x no_place named (sym is);
            many = put_many kept.laid n b x no_place named (sym is) ∙ kept.many;
            count = put_count kept.laid n b x no_place named (sym is) kept.count;
            numbered = kept.numbered;
            room = let enough = kept.room in omega (arith, enough, same);
            few = kept.few;
          }))

      pub put_view : blocks_in new (slice_set places n (Some len)) ≡ slice_set (blocks_in home places) (number_in ids b) (Some x)
      put_view =
          (λ i. blocks_in (items i) (slice_set places n (Some (long i))))
          ∙ (put_blocks kept.laid n b x no_place named (sym is)
          ∙ ap (λ i. slice_set (blocks_in home places) i (Some x)) (same_number listed_below))
