use Rattle.std.proofs.Common.{◌∙◌, ap, take}
use Rattle.trace_reader.proofs.Reading.{moved}
use Rattle.trace_reader.proofs.read.keep_last.Goals as goal

pub returns : goal.returns
returns c = ap (take c.args.held) c.copy_within.ensures.after ∙ moved c.args.buffer.now c.args.filled c.args.held c.requires.filled c.requires.held
