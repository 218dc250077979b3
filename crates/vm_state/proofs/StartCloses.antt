-- The state before the first entry is one.
use Rattle.std.proofs.Common.{◌≡◌, ◌⊎◌, inl, inr, ℕ, ◌+◌, ◌*◌, ◌≤◌, ◌<◌, Bool, List, [], Option, Some, None, length, map, replicate, reverse, slice_get, slice_index_or, refl, sym, ap, ◌∙◌, subst, arith}
use Rattle.std.specs.Prelude.{All}
use Rattle.std.specs.Option.{is_some, option_map}
use Rattle.std.proofs.lemmas.Bool.{cases_lt}
use Rattle.std.proofs.lemmas.List.{get_or-replicate, length-map, length-replicate}
use Rattle.std.proofs.lemmas.Option.{get_or_from_slice_get, slice_get-map, slice_get_within, none-some}
use Rattle.vm_types.specs.declared.limits.TheConstants.{PAGE_BYTES}
use Rattle.vm_types.specs.BlockView.{BlockView, Tells}
use Rattle.vm_types.specs.Configuration.{IsBlock, IsWellFormed}
use Rattle.vm_types.specs.declared.config.Config.{Config}
use Rattle.vm_types.specs.declared.names.BlockId.{BlockId}
use Rattle.vm_types.specs.declared.names.BlockId.TheVariants as block
use Rattle.run_record.specs.RunRecord.{Recorded}
use Rattle.content_laws.specs.Opening.{HasNewBuffers, HasNewHomes, IsNewBlock}
use Rattle.content_laws.proofs.OpeningContent.{opening_content}
use Rattle.frame_store.specs.Blocks.{block_at, blocks_of, held_at, number_of}
use Rattle.frame_store.specs.StoreView.{StoreView}
use Rattle.frame_store.proofs.Blocks.{number_there, only_blocks}
use Rattle.frame_store.proofs.Places.{get_held, held_get}
use Rattle.state_fits.specs.Opening.{AreFirst}
use Rattle.state_fits.specs.Parts.{Parts}
use Rattle.state_fits.proofs.OpeningParts.{opening_parts}
use Rattle.first_parts.specs.Laying.{HasFirsts}
use Rattle.vm_state.specs.Made.{IsMade}
use Rattle.vm_state.specs.StateKept.{IsState, home_in}

module _ {B : Type 0} (seen : B → BlockView) (tells : Tells) (config : Config) (blocks : List (BlockId × B)) (store : StoreView B) where
  abbrev name : (BlockId × B) → BlockId
  name p = p.0

  abbrev place : (BlockId × B) → Option B
  place p = Some p.1

  pub record IsOpened : Type 0 where
    pub left : store.left ≡ 16 * (length config.procs + 2)
    pub size : store.pool.size ≡ config.frames + 16 * (length config.procs + 2)
    pub buffers : store.buffers ≡ replicate config.frames (Some (replicate PAGE_BYTES 0))
    pub ids : store.ids ≡ blocks_of config
    pub blocks_are : store.blocks ≡ map place blocks
    pub names : map name blocks ≡ blocks_of config
    pub made : All (λ (p : BlockId × B). IsMade tells config p.0 (seen p.1)) blocks

  module _ (opened : IsOpened) where
    -- ---- buffers
    buffer_is : (f : ℕ) (bytes : List ℕ) → held_at store.buffers f ≡ Some bytes → length bytes ≡ PAGE_BYTES
    buffer_is f bytes there = go (cases_lt f config.frames)
      where
        go : (f < config.frames) ⊎ (config.frames ≤ f) → length bytes ≡ PAGE_BYTES
        go (inl below) =
            let same : Some (replicate PAGE_BYTES 0) ≡ Some bytes = sym (get_or-replicate config.frames f (Some (replicate PAGE_BYTES 0)) None below) ∙ (ap (λ (xs : List (Option (List ℕ))). held_at xs f) (sym opened.buffers) ∙ there) in
            let is : replicate PAGE_BYTES 0 ≡ bytes = cc in
            ap length (sym is) ∙ length-replicate {A = ℕ} PAGE_BYTES 0
        go (inr past) =
            let got = held_get store.buffers f bytes there in
            let within = slice_get_within store.buffers f (Some bytes) got in
            let count = ap length opened.buffers ∙ length-replicate config.frames (Some (replicate PAGE_BYTES 0)) in
            absurd (omega (arith, within, count, past))

    new_buffers : HasNewBuffers config (held_at store.buffers)
    new_buffers = record {
      sizes = buffer_is;
      home = λ f below. ap is_some (ap (λ (xs : List (Option (List ℕ))). held_at xs f) opened.buffers ∙ get_or-replicate config.frames f (Some (replicate PAGE_BYTES 0)) None below);
    }

    -- ---- blocks
    pair_of : (k : ℕ) (b : BlockId) (o : Option (BlockId × B)) → slice_get blocks k ≡ o → slice_get (blocks_of config) k ≡ Some b → (x : B) × (slice_get blocks k ≡ Some (b, x))
    pair_of k b None is there = absurd (none-some b (ap (option_map name) (sym is) ∙ (sym (slice_get-map name blocks k) ∙ (ap (λ (xs : List BlockId). slice_get xs k) opened.names ∙ there))))
    pair_of k b (Some p) is there =
        let both : Some p.0 ≡ Some b = ap (option_map name) (sym is) ∙ (sym (slice_get-map name blocks k) ∙ (ap (λ (xs : List BlockId). slice_get xs k) opened.names ∙ there)) in
        let same : p.0 ≡ b = cc in
        (p.1, is ∙ ap (λ (c : BlockId). Some (c, p.1)) same)

    many : length store.blocks ≡ length (blocks_of config)
    many = ap length opened.blocks_are ∙ (length-map blocks place ∙ (sym (length-map blocks name) ∙ ap length opened.names))

    -- a block of the configuration is home, and is the one that was given
    at_home : (b : BlockId) → IsBlock config b → (x : B) × (slice_get blocks (number_of config b) ≡ Some (b, x)) × (block_at config store.blocks b ≡ Some x)
    at_home b is =
        let pair = pair_of (number_of config b) b (slice_get blocks (number_of config b)) refl (number_there config b is) in
        (pair.0, pair.1, get_held store.blocks (number_of config b) (Some pair.0) (ap (λ (xs : List (Option B)). slice_get xs (number_of config b)) opened.blocks_are ∙ (slice_get-map place blocks (number_of config b) ∙ ap (option_map place) pair.1)))

    -- what is seen at home is a block that was made
    made_at : (b : BlockId) (x : BlockView) → home_in seen config store b ≡ Some x → (y : B) × (x ≡ seen y) × IsBlock config b × IsMade tells config b (seen y)
    made_at b x there = go (block_at config store.blocks b) refl there
      where
        go : (o : Option B) → block_at config store.blocks b ≡ o → option_map seen o ≡ Some x → (y : B) × (x ≡ seen y) × IsBlock config b × IsMade tells config b (seen y)
        go None is e = absurd (none-some x e)
        go (Some y) is e =
            let real : IsBlock config b = only_blocks config store.blocks many b y is in
            let home = at_home b real in
            let same : Some home.0 ≡ Some y = sym home.2 ∙ is in
            let it : home.0 ≡ y = cc in
            let shown : seen y ≡ x = cc in
            let within = slice_get_within blocks (number_of config b) (b, home.0) home.1 in
            let made : IsMade tells config (slice_index_or blocks (number_of config b) (b, home.0)).0 (seen (slice_index_or blocks (number_of config b) (b, home.0)).1) = opened.made (number_of config b) (b, home.0) within in
            let pair : slice_index_or blocks (number_of config b) (b, home.0) ≡ (b, home.0) = get_or_from_slice_get blocks (number_of config b) (b, home.0) (b, home.0) home.1 in
            (y, sym shown, real, subst (λ (z : B). IsMade tells config b (seen z)) it (subst (λ (p : BlockId × B). IsMade tells config p.0 (seen p.1)) pair made))

    new_homes : HasNewHomes tells.content tells.plan config (home_in seen config store)
    new_homes = record {
      blocks = λ b is. ap (λ (o : Option B). is_some (option_map seen o)) (at_home b is).2;
      only = λ b x there. (made_at b x there).2;
      fresh = λ b x there. let made = made_at b x there in subst (λ (t : BlockView). IsNewBlock tells.plan config b t) (sym made.1) (made.3).fresh;
      first = λ telling s i x there. let made = made_at (block.Section s i) x there in ap (λ (t : BlockView). t.content) made.1 ∙ (made.3).first telling s i refl;
    }

    pub started : (fields : Parts) (numbers : List ℕ) (journal : Recorded) {keeps : Bool} → IsWellFormed config → AreFirst config fields → HasFirsts config numbers → journal ≡ record { entries = []; spare = 0; keeps = keeps }
        → IsState seen tells config (reverse journal.entries) journal.spare store fields numbers
    started fields numbers journal formed first have is =
        subst (λ (j : Recorded). IsState seen tells config (reverse j.entries) j.spare store fields numbers) (sym is) (record {
          formed = formed;
          run = tt;
          short = omega arith;
          paid = omega arith;
          parts = opening_parts config fields first;
          bytes = opening_content tells.content tells.plan config (held_at store.buffers) (home_in seen config store) new_buffers new_homes;
          places = record {
            ids = opened.ids;
            buffers = ap length opened.buffers ∙ length-replicate config.frames (Some (replicate PAGE_BYTES 0));
            blocks = many;
            left = (let left = opened.left in omega (arith, left));
            firsts = have;
            size = opened.size;
          };
          right = λ told. tt;
        })
