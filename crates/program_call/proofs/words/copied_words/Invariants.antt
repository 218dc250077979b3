use Rattle.std.proofs.Common.{map}
use Rattle.program_call.proofs.Copying.{Copied}
use Rattle.program_call.proofs.words.copied_words.Given as goal

abbrev pub invariant-loop : goal.invariant-loop
invariant-loop g l = Copied (g.A.Arguments.left l.fn.arguments) (g.A.Arguments.left l.arguments) (map (λ word. word.items) l.words.items)
