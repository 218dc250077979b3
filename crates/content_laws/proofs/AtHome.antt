-- What content says of one buffer or block: that it is home, or away with a transfer.
use Rattle.std.proofs.Common.{◌≡◌, ℕ, ◌<◌, ◌||◌, Bool, true, false, not, List, Option, Some, None, is_some, find, length, nat_le, count_by, refl, sym, ap, ◌∙◌, arith}
use Rattle.std.proofs.lemmas.Bool.{eq-eqb, false≢true, leb-false, ne_eqb, true≢false}
use Rattle.std.proofs.lemmas.Option.{none-some}
use Rattle.vm_types.specs.declared.limits.TheConstants.{PAGE_BYTES}
use Rattle.vm_types.specs.BlockView.{BlockView}
use Rattle.vm_types.specs.Configuration.{IsBlock}
use Rattle.vm_types.specs.declared.names.Page.{Page}
use Rattle.vm_types.specs.declared.names.BlockId.{BlockId}
use Rattle.vm_types.specs.declared.names.FrameState.{FrameState}
use Rattle.vm_types.specs.declared.names.FrameState.TheVariants as state
use Rattle.vm_types.specs.declared.config.Config.{Config}
use Rattle.pager_laws.proofs.KeptIsSound.{same_block_refl}
use Rattle.pager_model.specs.Around.{PastView, frame_view}
use Rattle.pager_model.specs.Content.{HasBuffers, HasHomes}
use Rattle.pager_model.specs.Flights.{Flight}
use Rattle.pager_model.specs.Lookups.{is}
use Rattle.pager_model.specs.Opening.{is_bad}
use Rattle.pager_model.specs.Pager.{Pager}
use Rattle.pager_model.specs.Sets.{has}
use Rattle.pager_model.specs.Transfers.{IsHome, is_on_block, starts}
use Rattle.pager_rules.proofs.Basics.{states_equal}
use Rattle.pager_rules.proofs.Frames.{at_state}
use Rattle.pager_rules.proofs.Lists.{count_found}
use Rattle.pager_rules.specs.Kept.{IsKept}

-- ---- frames of the configuration
not_bad_inside : (config : Config) (f : ℕ) → is_bad config f ≡ false → f < config.frames
not_bad_inside config f = go (nat_le config.frames f) refl
  where
    go : (b : Bool) → nat_le config.frames f ≡ b → (b || has config.bad f) ≡ false → f < config.frames
    go false beyond other = leb-false config.frames f beyond
    go true beyond other = absurd (true≢false other)

-- a frame that holds a page is one of the configuration
pub holder_inside : (config : Config) (o : PastView) (a : Pager) (f : ℕ) (g : Page) → IsKept config o a → a.page f ≡ Some g → f < config.frames
holder_inside config o a f g kept holds = not_bad_inside config f (go (is state.Bad (a.state f)) refl)
  where
    go : (b : Bool) → is state.Bad (a.state f) ≡ b → is_bad config f ≡ false
    go false state_is = (kept.frames f).bad ∙ state_is
    go true state_is = absurd (none-some g (sym (at_state (frame_view config o a f) state.Bad (states_equal (a.state f) state.Bad state_is) (kept.frames f)).page ∙ holds))

-- ---- buffers
-- the buffer of a frame that isn't read is home, with a page's length
pub buffer_home : (config : Config) (state_of : ℕ → FrameState) (buffer : ℕ → Option (List ℕ)) (f : ℕ) → HasBuffers config state_of buffer → f < config.frames → is state.Reading (state_of f) ≡ false → (bytes : List ℕ) × (buffer f ≡ Some bytes) × (length bytes ≡ PAGE_BYTES)
buffer_home config state_of buffer f buffers inside not_read = go (buffer f) refl
  where
    go : (o : Option (List ℕ)) → buffer f ≡ o → (bytes : List ℕ) × (buffer f ≡ Some bytes) × (length bytes ≡ PAGE_BYTES)
    go None at = absurd (false≢true (sym (ap is_some at) ∙ (buffers.home f inside ∙ ap not not_read)))
    go (Some bytes) at = (bytes, at, buffers.sizes f bytes at)

-- that of one that is read is away
pub buffer_away : (config : Config) (state_of : ℕ → FrameState) (buffer : ℕ → Option (List ℕ)) (f : ℕ) → HasBuffers config state_of buffer → f < config.frames → is state.Reading (state_of f) ≡ true → buffer f ≡ None
buffer_away config state_of buffer f buffers inside read = go (buffer f) refl
  where
    go : (o : Option (List ℕ)) → buffer f ≡ o → buffer f ≡ None
    go None at = at
    go (Some bytes) at = absurd (true≢false (sym (ap is_some at) ∙ (buffers.home f inside ∙ ap not read)))

-- ---- blocks
-- a block that is in no flight is home
pub block_is_home : (config : Config) (flights : List Flight) (home : BlockId → Option BlockView) (b : BlockId) → HasHomes config flights home → IsHome config b flights → (seen : BlockView) × (home b ≡ Some seen)
block_is_home config flights home b homes is_home = go (home b) refl
  where
    go : (o : Option BlockView) → home b ≡ o → (seen : BlockView) × (home b ≡ Some seen)
    go None at = absurd (false≢true (sym (ap is_some at) ∙ (homes.blocks b is_home.exists ∙ eq-eqb _ _ is_home.still)))
    go (Some seen) at = (seen, at)

-- that of an open flight is away
pub block_is_away : (config : Config) (flights : List Flight) (home : BlockId → Option BlockView) (k : ℕ) (x : Flight) → HasHomes config flights home → IsBlock config x.block → find (starts k) flights ≡ Some x → home x.block ≡ None
block_is_away config flights home k x homes known found = go (home x.block) refl
  where
    some : 0 < count_by (is_on_block x.block) flights
    some = count_found (is_on_block x.block) (starts k) flights x found (same_block_refl x.block)

    go : (o : Option BlockView) → home x.block ≡ o → home x.block ≡ None
    go None at = at
    go (Some seen) at = absurd (true≢false (sym (ap is_some at) ∙ (homes.blocks x.block known ∙ ne_eqb _ _ (λ none. omega (arith, some, none)))))
