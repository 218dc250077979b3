use Rattle.std.proofs.Common.{refl}
use Rattle.log_check.proofs.Numbered.{other_number}
use Rattle.log_check.proofs.entry_line.numbered.Goals as goal

pub returns-else-n-number-clause-entry : goal.returns-else-n-number-clause-entry
returns-else-n-number-clause-entry c config line formed is f is' =
    other_number config line c.args.n c.args.number c.args.e f formed c.ranges.n.fits c.ranges.number.fits c.if-n-number.false is is'

pub returns-else-n-number-clause-none : goal.returns-else-n-number-clause-none
returns-else-n-number-clause-none c config line is = (c.args.n, c.args.e, is, refl, c.if-n-number.false)
