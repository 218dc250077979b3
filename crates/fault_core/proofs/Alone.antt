-- A cluster of one page.
use Rattle.std.proofs.Common.{◌≡◌, ℕ, ◌-◌, ◌≤◌, ◌<◌, ◌||◌, Bool, true, false, cond, if◌then◌else◌, List, [], ◌∷◌, map, nat_lt, refl, sym, arith}
use Rattle.std.specs.List.{range_with_len}
use Rattle.std.proofs.lemmas.Bool.{false≢true, ltb-true}
use Rattle.std.specs.Prelude.{max}
use Rattle.vm_types.specs.Adjust.{greater, lesser}
use Rattle.vm_types.specs.Configuration.{IsWellFormed}
use Rattle.vm_types.specs.declared.config.Config.{Config}
use Rattle.vm_types.specs.declared.names.BlockId.{BlockId}
use Rattle.vm_types.specs.declared.names.Page.{Page}
use Rattle.pager_policy.specs.Advance.{following, is_out, window}
use Rattle.pager_model.specs.Charging.{is_uncharged}
use Rattle.pager_model.specs.ClusterLength.{cluster_length, leading_out}
use Rattle.pager_model.specs.Pager.{Pager}
use Rattle.fault_core.specs.Reads.{reach_of}
use Rattle.fault_core.proofs.ClusterLengths.{greater_is, lesser_is}

-- the length is the least of its bounds
module _ (out : List Bool) (pfc free : ℕ) (some : 1 ≤ leading_out out) (reach : 1 ≤ pfc) where
  inner : (lesser (leading_out out) pfc ≤ leading_out out) × (lesser (leading_out out) pfc ≤ pfc) × ((k : ℕ) → k ≤ leading_out out → k ≤ pfc → k ≤ lesser (leading_out out) pfc)
  inner = lesser_is (leading_out out) pfc

  outer : (cluster_length out pfc free ≤ lesser (leading_out out) pfc) × (cluster_length out pfc free ≤ greater 1 (free - 1)) × ((k : ℕ) → k ≤ lesser (leading_out out) pfc → k ≤ greater 1 (free - 1) → k ≤ cluster_length out pfc free)
  outer = lesser_is (lesser (leading_out out) pfc) (greater 1 (free - 1))

  most : greater 1 (free - 1) ≡ max 1 (free - 1)
  most = greater_is 1 (free - 1)

  least : 1 ≤ cluster_length out pfc free
  least = outer.2 1 (inner.2 1 some reach) (omega (arith, most))

  one_by_free : free < 3 → 1 ≡ cluster_length out pfc free
  one_by_free few = omega (arith, few, outer.1, most, least)

  one_by_out : leading_out out ≤ 1 → 1 ≡ cluster_length out pfc free
  one_by_out few = omega (arith, few, outer.0, inner.0, least)

  one_by_pfc : pfc ≤ 1 → 1 ≡ cluster_length out pfc free
  one_by_pfc few = omega (arith, few, outer.0, inner.1, least)

-- too few frames are free, or a cluster reaches no further
pub read_alone : (config : Config) (a : Pager) (g : Page) (b : BlockId) (free : ℕ) → IsWellFormed config → true ≡ (nat_lt free 3 || nat_lt (reach_of config a g) 2) → 1 ≡ cluster_length (window config a g b) config.params.pfc free
read_alone config a g b free formed = by (is_uncharged config a g)
  where
    pfc : ℕ
    pfc = config.params.pfc

    among : Bool → List Bool
    among c = if c then (true ∷ []) else (true ∷ map (λ (places : ℕ). is_out config a (following config a g b places)) (range_with_len 1 (config.params.pfc - 1)))

    some : (c : Bool) → 1 ≤ leading_out (among c)
    some true = omega arith
    some false = omega arith

    reached : (c : Bool) → cond c 1 pfc < 2 → 1 ≡ cluster_length (among c) pfc free
    reached true few = one_by_out (among true) pfc free (some true) formed.params.pfc.0 (omega arith)
    reached false few = one_by_pfc (among false) pfc free (some false) formed.params.pfc.0 (omega (arith, few))

    either : (c d e : Bool) → nat_lt free 3 ≡ d → nat_lt (cond c 1 pfc) 2 ≡ e → true ≡ (d || e) → 1 ≡ cluster_length (among c) pfc free
    either c true e first second is = one_by_free (among c) pfc free (some c) formed.params.pfc.0 (ltb-true free 3 first)
    either c false true first second is = reached c (ltb-true (cond c 1 pfc) 2 second)
    either c false false first second is = absurd (false≢true (sym is))

    by : (c : Bool) → true ≡ (nat_lt free 3 || nat_lt (cond c 1 pfc) 2) → 1 ≡ cluster_length (among c) pfc free
    by c is = either c (nat_lt free 3) (nat_lt (cond c 1 pfc) 2) refl refl is
