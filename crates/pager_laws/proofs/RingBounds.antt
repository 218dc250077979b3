-- The rings of the processes are as long as their extents, and the pages that may be mapped have places.
use Rattle.std.proofs.Common.{◌≡◌, ◌⊎◌, inl, inr, ℕ, ◌+◌, ◌-◌, ◌^◌, ◌<◌, ◌≤◌, Bool, true, false, cond, ◌&&◌, Some, None, length, slice_index_or, slice_get, nat_lt, nat_le, refl, subst, arith}
use Rattle.std.specs.Prelude.{IsSome}
use Rattle.std.proofs.lemmas.Bool.{le-leb, lt-ltb}
use Rattle.std.proofs.lemmas.Option.{slice_get_cases}
use Rattle.vm_types.specs.declared.limits.TheConstants.{MOST_EXTENT, P0_PAGES, P1_PAGES}
use Rattle.vm_types.specs.Configuration.{IsWellFormed}
use Rattle.vm_types.specs.PagePlaces.{region_place}
use Rattle.vm_types.specs.declared.config.Config.{Config}
use Rattle.vm_types.specs.declared.config.ProcSpec.{ProcSpec}
use Rattle.pager_model.specs.Around.{PastView}
use Rattle.pager_model.specs.OfConfig.{IsMappable}
use Rattle.pager_model.specs.Pager.{Pager}
use Rattle.pager_model.specs.Sound.{IsBounded}
use Rattle.pager_rules.specs.Kept.{IsKept}

pub placed : (v : ℕ) → IsMappable v → IsSome (region_place v)
placed v (inl less) = rw (lt-ltb v P0_PAGES less) refl
placed v (inr most) = go (nat_lt v P0_PAGES)
  where
    go : (b : Bool) → IsSome (cond b (Some v) (cond (nat_le (2 ^ 22 - P1_PAGES) v && nat_lt v (2 ^ 22)) (Some (v - (2 ^ 22 - P1_PAGES) + P0_PAGES)) None))
    go true = refl
    go false = rw (le-leb (2 ^ 22 - P1_PAGES) v most.0, lt-ltb v (2 ^ 22) most.1) refl

module _ (config : Config) (o : PastView) (a : Pager) (formed : IsWellFormed config) (kept : IsKept config o a) where
  abbrev pub Found : ℕ → Type 0
  Found p = (spec : ProcSpec) × (p < length config.procs) × (slice_get config.procs p ≡ Some spec) × (slice_index_or config.procs p spec ≡ spec)

  at_spec : (p : ℕ) → Found p → (spec : ProcSpec) × IsBounded config.version spec (a.ring p) (a.limit p) × (spec.extent ≤ MOST_EXTENT)
  at_spec p found = (found.0, (kept.processes p).bounds found.0 found.2, subst (λ (x : ProcSpec). x.extent ≤ MOST_EXTENT) found.3 (formed.procs p found.0 found.1).limited.most)

  pub bounded : (p : ℕ) → p < length config.procs → (spec : ProcSpec) × IsBounded config.version spec (a.ring p) (a.limit p) × (spec.extent ≤ MOST_EXTENT)
  bounded p less = go (slice_get_cases config.procs p).1
    where
      go : Found p ⊎ ((length config.procs ≤ p) × (slice_get config.procs p ≡ None)) → (spec : ProcSpec) × IsBounded config.version spec (a.ring p) (a.limit p) × (spec.extent ≤ MOST_EXTENT)
      go (inl found) = at_spec p found
      go (inr past) = absurd (omega (arith, past.0, less))

  pub slots_few : (p : ℕ) → length (a.ring p).slots ≤ MOST_EXTENT
  slots_few p = go (slice_get_cases config.procs p).1
    where
      go : Found p ⊎ ((length config.procs ≤ p) × (slice_get config.procs p ≡ None)) → length (a.ring p).slots ≤ MOST_EXTENT
      go (inl found) = let bounds = at_spec p found in omega (arith, bounds.1.slots, bounds.2)
      go (inr past) = let none = (kept.processes p).none past.1 in omega (arith, none.1)
