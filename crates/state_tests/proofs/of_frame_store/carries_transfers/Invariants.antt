use Rattle.std.proofs.Common.{◌≡◌, length}
use Rattle.state_tests.specs.TestStore.{IsReady}
use Rattle.state_tests.proofs.of_frame_store.carries_transfers.Given as goal

abbrev pub invariant-loop-f : goal.invariant-loop-f
invariant-loop-f g l = record {
  calls : l.calls ≡ l.f-index;
  rows : length l.f-items ≡ 8;
  ready : IsReady l.calls l.store;
}
