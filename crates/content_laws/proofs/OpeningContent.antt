-- Content at the opening.
use Rattle.std.proofs.Common.{◌≡◌, ℕ, Bool, true, false, not, List, [], ◌&&◌, Option, Some, refl, sym, ap, ◌∙◌, None, arith, cond, replicate, slice_get}
use Rattle.std.proofs.lemmas.Option.{none-some, same_Some}
use Rattle.vm_types.specs.declared.limits.TheConstants.{PAGE_BYTES}
use Rattle.vm_types.specs.BlockView.{BlockView}
use Rattle.vm_types.specs.declared.names.Page.{Page}
use Rattle.vm_types.specs.declared.names.Page.TheVariants.{Private, Shared}
use Rattle.vm_types.specs.declared.names.BlockId.{BlockId}
use Rattle.vm_types.specs.declared.names.FrameState.TheVariants as state
use Rattle.vm_types.specs.declared.config.Config.{Config}
use Rattle.vm_types.specs.declared.names.BlockId.TheVariants as block
use Rattle.content_laws.specs.Opening.{HasNewBuffers, HasNewHomes}
use Rattle.pager_model.specs.Bytes.{now}
use Rattle.pager_model.specs.Content.{ContentFits}
use Rattle.pager_model.specs.Lookups.{is}
use Rattle.pager_model.specs.Maps.{paged_of, section_bytes}
use Rattle.pager_model.specs.Opening.{first_block, first_state, is_bad, opening}

first_not_reading : (b : Bool) → not (is state.Reading (first_state b)) ≡ true
first_not_reading true = refl
first_not_reading false = refl

pub opening_content : (tells tells_plan : Bool) (config : Config) (buffer : ℕ → Option (List ℕ)) (home : BlockId → Option BlockView) → HasNewBuffers config buffer → HasNewHomes tells tells_plan config home
    → ContentFits tells tells_plan config [] (opening config) buffer home
opening_content tells tells_plan config buffer home buffers homes = record {
  buffers = record { sizes = buffers.sizes; home = λ f inside. buffers.home f inside ∙ sym (first_not_reading (is_bad config f)) };
  homes = record { blocks = homes.blocks; only = homes.only };
  held = λ told f g holds. absurd (none-some g holds);
  lying = λ told b x g real at_home lies settled. lying told b x g at_home lies;
  written = λ told. tt;
  copied = λ told s i x at_home unshared. homes.first told s i x at_home;
  counted = λ b x at_home.
      let fresh = homes.fresh b x at_home in
      record { counts = record { reads = omega (arith, fresh.reads); writes = omega (arith, fresh.writes) }; faults = fresh.faults; plan = fresh.plan };
}
  where
    lying : tells ≡ true → (b : BlockId) (x : BlockView) (g : Page) → home b ≡ Some x → first_block config g ≡ Some b → x.content ≡ Some (now config [] g)
    lying told b x (Private p v) at_home lies = absurd (none-some b lies)
    lying told b x (Shared s i) at_home lies = go (paged_of (slice_get config.sections s.0)) lies
      where
        go : (c : Bool) → cond c None (Some (block.Section s i)) ≡ Some b → x.content ≡ Some (cond (c && true) (cond c (replicate PAGE_BYTES 0) (section_bytes config s.0 i)) (section_bytes config s.0 i))
        go true lies = absurd (none-some b lies)
        go false lies = homes.first told s i x (ap home (same_Some _ _ lies) ∙ at_home)
