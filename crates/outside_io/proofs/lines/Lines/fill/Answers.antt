use Rattle.std.proofs.Common.{arith}
use Rattle.outside_io.proofs.Pending.{keeps_none}
use Rattle.outside_io.proofs.lines.Lines.fill.Goals as goal

pub returns-in-Err-clause-failed : goal.returns-in-Err-clause-failed
returns-in-Err-clause-failed g c =
    keeps_none c.args.self.now.buffer c.read.new.buf c.args.self.now.next c.args.self.now.filled _ _ c.requires (omega arith) (omega arith) c.in-Err.ensures.bytes
