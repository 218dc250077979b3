use Rattle.std.proofs.Common.{◌≡◌, map, vec_len}
use Rattle.std.specs.List.{range_with_len}
use Rattle.pager_model.specs.Opening.{first_state, is_bad}
use Rattle.shadow_pager.proofs.shadow_pager.states_of.Given as goal

abbrev pub invariant-loop-f : goal.invariant-loop-f
invariant-loop-f l = (vec_len l.states ≡ l.f) × (l.states.items ≡ map (λ f. first_state (is_bad l.fn.config f)) (range_with_len 0 l.f))
