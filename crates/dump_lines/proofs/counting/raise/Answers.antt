use Rattle.dump_lines.proofs.Raising.{raised_one}
use Rattle.dump_lines.proofs.counting.raise.Goals as goal

pub returns : goal.returns
returns c = raised_one c.args.counts.now c.args.frame c.requires.there
