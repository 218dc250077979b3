use Rattle.std.proofs.Common.{arith, take}
use Rattle.outside_io.proofs.Pending.{slice_of, taken_line, taken_part}
use Rattle.outside_io.proofs.lines.Lines.take_held.Goals as goal

pub returns-in-Some-clause-taken : goal.returns-in-Some-clause-taken
returns-in-Some-clause-taken g c =
    let now = c.args.self.now in
    taken_line (take now.filled now.buffer) now.next _ c.in-Some.end _ _ _ _ (slice_of now.buffer now.next now.filled (omega arith)) c.in-Some.ensures c.push_word.ensures.items (omega arith)

pub returns-in-None-clause-taken : goal.returns-in-None-clause-taken
returns-in-None-clause-taken g c =
    let now = c.args.self.now in
    taken_part (take now.filled now.buffer) now.next _ _ _ _ _ (slice_of now.buffer now.next now.filled (omega arith)) c.in-None.ensures c.push_word-in-None.ensures.items (omega arith)
