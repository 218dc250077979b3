use Rattle.std.proofs.Common.{◌≡◌, ◌<◌, ◌≤◌, ℕ, Some, slice_get}
use Rattle.shadow_history.proofs.orders.are_past.Given as goal

-- those so far are past it
abbrev pub invariant-loop-place : goal.invariant-loop-place
invariant-loop-place l = (p i : ℕ) → p < l.place-index → slice_get l.next p ≡ Some i → l.tasks ≤ i
