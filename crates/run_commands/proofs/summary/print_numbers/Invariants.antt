use Rattle.std.proofs.Common.{◌≡◌, ◌*◌, ◌≤◌, length, take}
use Rattle.std.specs.List.{flat_map}
use Rattle.run_commands.specs.MakeText.{part_text}
use Rattle.run_commands.proofs.summary.print_numbers.Given as goal

abbrev pub invariant-loop-part : goal.invariant-loop-part
invariant-loop-part g l = record {
  items : l.out.items ≡ flat_map part_text (take l.part-index l.parts);
  room : length l.out.items ≤ 28 * l.part-index;
}
