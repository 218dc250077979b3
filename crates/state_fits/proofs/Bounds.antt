-- A page that may be mapped has a place, and a slot of a ring has a swap block.
use Rattle.std.proofs.Common.{◌≡◌, inl, inr, ℕ, ◌+◌, ◌-◌, ◌^◌, ◌<◌, Bool, true, false, cond, ◌&&◌, Option, Some, None, length, nat_le, nat_lt, slice_get, refl, subst, arith}
use Rattle.std.specs.Prelude.{IsSome, is_some}
use Rattle.std.proofs.lemmas.Bool.{and_from, le-leb, lt-ltb}
use Rattle.std.proofs.lemmas.Option.{get_or_from_slice_get, slice_get_within}
use Rattle.vm_types.specs.declared.limits.TheConstants.{P0_PAGES, P1_PAGES}
use Rattle.vm_types.specs.Configuration.{IsProcess, IsWellFormed, all_pins}
use Rattle.vm_types.specs.PagePlaces.{region_place}
use Rattle.vm_types.specs.declared.config.Config.{Config}
use Rattle.vm_types.specs.declared.config.ProcSpec.{ProcSpec}
use Rattle.vm_types.specs.declared.names.Page.{Page}
use Rattle.vm_types.specs.declared.names.Page.TheVariants.{Private, Shared}
use Rattle.pager_model.specs.Around.{PastView}
use Rattle.pager_model.specs.Maps.{is_paged}
use Rattle.pager_model.specs.OfConfig.{IsMappable, IsPageOf}
use Rattle.pager_model.specs.Pager.{Pager}
use Rattle.pager_rules.specs.Kept.{IsKept}
use Rattle.state_parts.specs.ChargedTable.{ChargedTable, HasPlace}
use Rattle.state_parts.specs.SwapTable.{HasSlot, SwapTable}
use Rattle.state_parts.specs.declared.charged_page.ChargedPage.{ChargedPage}
use Rattle.state_fits.specs.Pages.{PagesFit}
use Rattle.state_fits.specs.Swaps.{SwapsFit}

pub place_there : (v : ℕ) → IsMappable v → IsSome (region_place v)
place_there v (inl low) = rw (lt-ltb v P0_PAGES low) refl
place_there v (inr high) = go (nat_lt v P0_PAGES)
  where
    inside : (nat_le (2 ^ 22 - P1_PAGES) v && nat_lt v (2 ^ 22)) ≡ true
    inside = and_from _ _ (le-leb (2 ^ 22 - P1_PAGES) v high.0) (lt-ltb v (2 ^ 22) high.1)

    go : (b : Bool) → is_some (cond b (Some v) (cond (nat_le (2 ^ 22 - P1_PAGES) v && nat_lt v (2 ^ 22)) (Some (v - (2 ^ 22 - P1_PAGES) + P0_PAGES)) None)) ≡ true
    go true = refl
    go false = rw inside refl

-- so a page that may be charged has a place in the table
pub kept_place : (config : Config) (row : Page → Option ChargedPage) (table : ChargedTable) → PagesFit config row table → (g : Page) → IsPageOf config g → is_paged config g ≡ true → HasPlace table g
kept_place config row table fit (Private p v) of paged = record { proc = (let procs = fit.procs in let there = of.0 in omega (arith, procs, there)); page = place_there v of.1 }
kept_place config row table fit (Shared s i) of paged = fit.places s.0 i of.0 paged

pub slot_there : (config : Config) (o : PastView) (a : Pager) (swaps : SwapTable) (p n : ℕ) → IsWellFormed config → IsKept config o a → SwapsFit a.lies (length config.procs) swaps → n < length (a.ring p).slots → HasSlot swaps p n
slot_there config o a swaps p n formed kept fit within = go (slice_get config.procs p) refl
  where
    go : (spec : Option ProcSpec) → slice_get config.procs p ≡ spec → HasSlot swaps p n
    go None none = let zero = ((kept.processes p).none none).1 in absurd (omega (arith, zero, within))
    go (Some spec) found =
        let there = slice_get_within config.procs p spec found in
        let bounded = (kept.processes p).bounds spec found in
        let process : IsProcess config.frames (length config.bad + all_pins config) spec = subst (IsProcess config.frames (length config.bad + all_pins config)) (get_or_from_slice_get config.procs p spec spec found) (formed.procs p spec there) in
        record { proc = omega (arith, there, fit.procs); slot = omega (arith, within, bounded.slots, process.limited.most) }
