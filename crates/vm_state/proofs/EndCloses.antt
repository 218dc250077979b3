-- A state once no transfer is open: all buffers are in, and fill the pool; and each block is home, counted and written back.
use Rattle.std.proofs.Common.{◌≡◌, ℕ, ◌<◌, ◌≤◌, ◌+◌, ◌*◌, Bool, true, false, not, List, [], Option, Some, None, IsSome, count_by, length, map, slice_get, slice_index_or, refl, sym, ap, ◌∙◌, subst, arith}
use Rattle.std.specs.Option.{option_map}
use Rattle.std.proofs.lemmas.Option.{get_or_from_slice_get, none-some, slice_get-get_or, slice_get-map}
use Rattle.vm_types.specs.BlockView.{BlockView, Tells}
use Rattle.vm_types.specs.Configuration.{IsBlock}
use Rattle.vm_types.specs.declared.config.Config.{Config}
use Rattle.vm_types.specs.declared.names.BlockId.{BlockId}
use Rattle.vm_types.specs.declared.names.BlockId.TheVariants as block
use Rattle.vm_types.specs.declared.names.FrameState.TheVariants as state
use Rattle.vm_journal.specs.declared.entry.Entry.{Entry}
use Rattle.pager_model.specs.Flights.{Flight, open_flights}
use Rattle.pager_model.specs.Lookups.{is}
use Rattle.pager_model.specs.Transfers.{reads_on}
use Rattle.pager_model.specs.Run.{pager_after}
use Rattle.pager_model.specs.CountedBlock.{IsCountedBlock}
use Rattle.pager_rules.specs.Kept.{one_if}
use Rattle.pager_laws.proofs.RunsAreSound.{run_kept}
use Rattle.content_laws.proofs.EndContent.{block_home, blocks_written_back}
use Rattle.frame_store.specs.Blocks.{block_at, blocks_of, held_at}
use Rattle.frame_store.specs.StoreView.{StoreView}
use Rattle.frame_store.proofs.Blocks.{is_block, number_only}
use Rattle.frame_store.proofs.Places.{get_held, held_get}
use Rattle.state_fits.specs.Parts.{Parts}
use Rattle.vm_state.specs.Ends.{IsGivenBack}
use Rattle.vm_state.specs.StateKept.{IsState, home_in, is_writing}

module _ {B : Type 0} {seen : B → BlockView} {tells : Tells} {config : Config} {past : List Entry} {spare : ℕ} {store : StoreView B} {fields : Parts} {numbers : List ℕ}
    (before : IsState seen tells config past spare store fields numbers) (none : open_flights past ≡ []) where
  -- a block of the configuration is home
  at_home : (b : BlockId) → IsBlock config b → (x : B) × (block_at config store.blocks b ≡ Some x)
  at_home b is = go (block_at config store.blocks b) refl (block_home tells.content tells.plan config past (pager_after config past) (held_at store.buffers) (home_in seen config store) none before.bytes b is)
    where
      go : (o : Option B) → block_at config store.blocks b ≡ o → (x : BlockView) × (home_in seen config store b ≡ Some x) × IsCountedBlock tells.plan config past b x → (x : B) × (block_at config store.blocks b ≡ Some x)
      go None at home = absurd (none-some home.0 (ap (option_map seen) (sym at) ∙ home.1))
      go (Some x) at home = (x, at)

  pub all_home : (k : ℕ) (d : Option B) → k < length store.blocks → IsSome (slice_index_or store.blocks k d)
  all_home k d within = go (slice_get (blocks_of config) k) refl
    where
      go : (o : Option BlockId) → slice_get (blocks_of config) k ≡ o → IsSome (slice_index_or store.blocks k d)
      go None at = absurd (let many = before.places.blocks in let there = slice_get-get_or (blocks_of config) k (block.PageFile 0) (omega (arith, many, within)) in none-some _ (sym at ∙ there))
      go (Some b) at =
          let home = at_home b (is_block config k b at) in
          let held : held_at store.blocks k ≡ Some home.0 = ap (held_at store.blocks) (sym (number_only config k b at)) ∙ home.1 in
          subst IsSome (sym (get_or_from_slice_get store.blocks k (Some home.0) d (held_get store.blocks k home.0 held))) refl

  still : (f : ℕ) → is state.Reading ((pager_after config past).state f) ≡ false
  still f = go (is state.Reading ((pager_after config past).state f)) refl
    where
      count : 0 ≡ one_if (is state.Reading ((pager_after config past).state f))
      count = ap (reads_on f) (sym none) ∙ ((run_kept config past before.formed before.run).frames f).reads

      go : (b : Bool) → is state.Reading ((pager_after config past).state f) ≡ b → is state.Reading ((pager_after config past).state f) ≡ false
      go false other = other
      go true reads = let one : 0 ≡ 1 = count ∙ ap one_if reads in absurd (omega (arith, one))

  pub all_in : (f : ℕ) (d : Option (List ℕ)) → f < length store.buffers → IsSome (slice_index_or store.buffers f d)
  all_in f d within =
      let many = before.places.buffers in
      let home : IsSome (held_at store.buffers f) = before.bytes.buffers.home f (omega (arith, many, within)) ∙ ap not (still f) in
      subst IsSome (sym (get_or_from_slice_get store.buffers f (held_at store.buffers f) d (slice_get-get_or store.buffers f None within))) home

  pub full : store.pool.size ≤ store.left + length store.buffers
  full =
      let left : 16 * (length config.procs + 2) ≤ store.left + 0 = subst (λ (flights : List Flight). 16 * (length config.procs + 2) ≤ store.left + count_by is_writing flights) none before.places.left in
      let size = before.places.size in
      let many = before.places.buffers in
      omega (arith, left, size, many)

  -- the blocks with their names, as they are given
  module _ (blocks : List (BlockId × B)) (names : map (λ (p : BlockId × B). p.0) blocks ≡ store.ids) (places : map (λ (p : BlockId × B). Some p.1) blocks ≡ store.blocks) where
    given : (k : ℕ) (p : BlockId × B) → slice_get blocks k ≡ Some p → IsGivenBack tells config past p.0 (seen p.1)
    given k p at = record {
      counted = before.bytes.counted p.0 (seen p.1) home;
      written = λ says. blocks_written_back tells.content tells.plan config past (held_at store.buffers) (home_in seen config store) p.0 (seen p.1) before.formed before.run none says before.bytes home;
    }
      where
        name : slice_get (blocks_of config) k ≡ Some p.0
        name = ap (λ (xs : List BlockId). slice_get xs k) (sym before.places.ids ∙ sym names) ∙ (slice_get-map (λ (q : BlockId × B). q.0) blocks k ∙ ap (option_map (λ (q : BlockId × B). q.0)) at)

        place : slice_get store.blocks k ≡ Some (Some p.1)
        place = ap (λ (xs : List (Option B)). slice_get xs k) (sym places) ∙ (slice_get-map (λ (q : BlockId × B). Some q.1) blocks k ∙ ap (option_map (λ (q : BlockId × B). Some q.1)) at)

        home : home_in seen config store p.0 ≡ Some (seen p.1)
        home = ap (option_map seen) (ap (held_at store.blocks) (number_only config k p.0 name) ∙ get_held store.blocks k (Some p.1) place)

    pub given_back : (k : ℕ) (d : BlockId × B) → k < length blocks → IsGivenBack tells config past (slice_index_or blocks k d).0 (seen (slice_index_or blocks k d).1)
    given_back k d within = given k (slice_index_or blocks k d) (slice_get-get_or blocks k d within)
