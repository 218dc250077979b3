use Rattle.std.proofs.Common.{◌≡◌, ℕ, vec_len, None}
use Rattle.vm_types.specs.PagePlaces.{item_at}
use Rattle.pager_model.specs.FlatService.{map_range}
use Rattle.shadow_tables.proofs.laying.clear_range.Given as goal

-- the pages before k are changed
abbrev pub invariant-loop-k : goal.invariant-loop-k
invariant-loop-k l = (vec_len l.pages ≡ vec_len l.initial.pages) × ((q v : ℕ) → item_at l.pages.items q v ≡ map_range (λ old. None) l.p.0 l.fn.at.0 l.k (item_at l.initial.pages.items) q v)
