use Rattle.std.proofs.Common.{◌≡◌, ◌+◌, ◌*◌, ◌≤◌, ◌++◌, length, take}
use Rattle.std.specs.List.{flat_map}
use Rattle.command_messages.specs.Shown.{shown}
use Rattle.command_messages.proofs.shown.push_shown.Given as goal

abbrev pub invariant-loop-byte : goal.invariant-loop-byte
invariant-loop-byte g l = record {
  items : l.out.items ≡ l.fn.out.items ++ flat_map shown (take l.byte-index l.bytes);
  room : length l.out.items ≤ length l.fn.out.items + 4 * l.byte-index;
}
