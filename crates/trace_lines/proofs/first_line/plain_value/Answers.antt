use Rattle.std.proofs.Common.{◌∙◌, sym}
use Rattle.trace_lines.proofs.PlainForm.{ended_value}
use Rattle.trace_lines.proofs.first_line.plain_value.Goals as goal

pub returns-then-fits : goal.returns-then-fits
returns-then-fits c = let a = c.in_ok-behind_blank in ended_value c.args.width _ c.args.text.now c.in_ok-value.value c.in_ok-value.rest.now c.in_ok-behind_blank.ensures c.in_ok-value.ensures (sym c.fits.ensures ∙ c.if-fits.true)
