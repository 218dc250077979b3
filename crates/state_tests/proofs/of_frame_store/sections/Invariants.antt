use Rattle.std.proofs.Common.{◌≡◌, map}
use Rattle.std.specs.List.{range_with_len}
use Rattle.state_tests.specs.TestStore.{great_section}
use Rattle.state_tests.proofs.of_frame_store.sections.Given as goal

abbrev pub invariant-loop-number : goal.invariant-loop-number
invariant-loop-number l = l.sections.items ≡ map great_section (range_with_len 0 l.number)
