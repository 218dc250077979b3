-- The passes so far own a number each, and the rest owns the numbers from their count on.
use Rattle.std.proofs.Common.{◌≡◌, ℕ, ◌+◌, ◌-◌, ◌≤◌, [], ◌∷◌, length, slice_get, vec_capacity, Some}
use Rattle.std.specs.List.{range_with_len}
use Rattle.history_lock.specs.Views.{unseen}
use Rattle.history_lock.proofs.steps.deal.Given as goal

abbrev pub invariant-loop-i : goal.invariant-loop-i
invariant-loop-i g l = let base = g.T.Kept.base l.shared.key.value.value in record {
  own : l.rest.table_id ≡ l.shared.table_id;
  rest : l.rest.me ≡ (unseen (range_with_len (length l.passes.items) (l.n - length l.passes.items)) base, []);
  count : length l.passes.items + 1 ≡ l._i;
  room : l.n ≤ vec_capacity l.passes;
  each : (i : ℕ) (pass : _) → slice_get l.passes.items i ≡ Some pass → (pass.seat.table_id ≡ l.shared.table_id) × (pass.seat.me ≡ (unseen (i ∷ []) base, []));
}
