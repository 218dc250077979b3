use Rattle.std.proofs.Common.{◌≡◌, ℕ, map, not}
use Rattle.std.specs.List.{filter, range_with_len}
use Rattle.pager_model.specs.Opening.{is_bad}
use Rattle.shadow_pager.proofs.shadow_pager.free_of.Given as goal

abbrev pub invariant-loop-f : goal.invariant-loop-f
invariant-loop-f l = l.free ≡ filter (λ f. not (is_bad l.fn.config f)) (map (λ (k : ℕ). k) (range_with_len 0 l.f))
