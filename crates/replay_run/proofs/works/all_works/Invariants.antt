-- The requests of the seats before this one.
use Rattle.std.proofs.Common.{◌≡◌, ℕ, Some, length, slice_get, vec_capacity}
use Rattle.pager_model.specs.Order.{requests_of}
use Rattle.replay_run.proofs.works.all_works.Given as goal

abbrev pub invariant-loop-k : goal.invariant-loop-k
invariant-loop-k l = record {
  each : (j : ℕ) (work : _) → slice_get l.works.items j ≡ Some work → work.items ≡ requests_of j l.body;
  count : length l.works.items ≡ l.k;
  room : vec_capacity l.works ≡ l.n;
}
