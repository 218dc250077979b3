use Rattle.std.proofs.Common.{◌≡◌, ◌++◌, map}
use Rattle.std.specs.List.{range_with_len}
use Rattle.state_tests.specs.TestStore.{in_row}
use Rattle.state_tests.proofs.of_frame_store.push_row.Given as goal

abbrev pub invariant-loop-number : goal.invariant-loop-number
invariant-loop-number l = l.ids.items ≡ l.fn.ids.items ++ map (in_row l.row) (range_with_len 0 l.number)
