-- The pages that lie in the swap blocks of a process.
use Rattle.std.proofs.Common.{◌≡◌, ℕ, ◌<◌, true, List, Some, refl, arith}
use Rattle.std.proofs.lemmas.Bool.{false≢true}
use Rattle.vm_types.specs.Configuration.{IsWellFormed}
use Rattle.vm_types.specs.declared.config.Config.{Config}
use Rattle.vm_types.specs.declared.names.BlockId.TheVariants as block
use Rattle.vm_types.specs.declared.names.Page.{Page}
use Rattle.vm_types.specs.declared.names.Page.TheVariants.{Private, Shared}
use Rattle.vm_journal.specs.declared.entry.Entry.{Entry}
use Rattle.pager_model.specs.Lying.{lies_in, lying_in}
use Rattle.pager_model.specs.Around.{past_view}
use Rattle.pager_model.specs.Forget.{holder}
use Rattle.pager_model.specs.Lookups.{is_of}
use Rattle.pager_model.specs.Maps.{proc}
use Rattle.pager_model.specs.Pager.{Pager}
use Rattle.pager_model.specs.Run.{IsRun, pager_after}
use Rattle.pager_rules.proofs.Lists.{found_passes}
use Rattle.pager_rules.specs.Kept.{IsKept}
use Rattle.pager_laws.proofs.OfConfigKept.{run_right}
use Rattle.pager_laws.proofs.RunsAreSound.{run_kept}
use Rattle.pager_laws.proofs.Holders.{holder_holds, holds_within}
use Rattle.call_laws.proofs.FollowingPages.{lies_there}
use Rattle.vm_state.specs.PageReadings.{IsKnown}
use Rattle.vm_swapper.specs.SeenSlots.{HasSmallNumber}
use Rattle.vm_swapper.proofs.SlotsSeen.{page_small}

module _ (config : Config) (past : List Entry) (formed : IsWellFormed config) (run : IsRun config past) where
  abbrev a : Pager
  a = pager_after config past

  kept : IsKept config (past_view past) a
  kept = run_kept config past formed run

  module _ (p n : ℕ) (g : Page) (found : lying_in a p n ≡ Some g) where
    lies : a.lies g ≡ Some (block.Swap (proc p) n)
    lies = lies_there (a.lies g) (block.Swap (proc p) n) (found_passes (λ (h : Page). lies_in (a.lies h) (block.Swap (proc p) n)) a.charged g found)

    -- it is a private page, with a small number
    pub lying_known : IsKnown config g
    lying_known = by g (kept.swapped g p n lies).own
      where
        by : (h : Page) → is_of p h ≡ true → IsKnown config h
        by (Private q v) own = tt
        by (Shared s i) own = absurd (false≢true own)

    pub lying_small : HasSmallNumber g
    lying_small = by g lies
      where
        by : (h : Page) → a.lies h ≡ Some (block.Swap (proc p) n) → HasSmallNumber h
        by (Shared s i) there = tt
        by (Private q v) there =
            let charged = (kept.pages (Private q v)).lying (block.Swap (proc p) n) refl there in
            page_small config a q.0 v (Private q v) (run_right config past formed run) ((kept.pages (Private q v)).mapped (omega (arith, charged)) refl)

  pub held_within : (g : Page) (f : ℕ) → holder config a.page g ≡ Some f → f < config.frames
  held_within g f held = holds_within config (past_view past) a f g kept (holder_holds config a.page g f held)
