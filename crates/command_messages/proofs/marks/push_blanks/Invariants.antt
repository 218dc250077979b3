use Rattle.std.proofs.Common.{◌≡◌, ◌+◌, ◌++◌, length, replicate}
use Rattle.command_messages.proofs.marks.push_blanks.Given as goal

abbrev pub invariant-loop-i : goal.invariant-loop-i
invariant-loop-i l = (l.out.items ≡ l.fn.out.items ++ replicate l.i 32) × (length l.out.items ≡ length l.fn.out.items + l.i)
