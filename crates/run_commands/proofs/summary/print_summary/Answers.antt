use Rattle.std.proofs.Common.{◌∙◌, ap, subst}
use Rattle.outside_io.specs.Writes.{Writes}
use Rattle.run_commands.specs.MakeText.{summary_lines}
use Rattle.run_commands.specs.Tallies.{counts_in}
use Rattle.run_commands.proofs.Tallies.{counts_told}
use Rattle.run_commands.proofs.summary.print_summary.Goals as goal

pub returns : goal.returns
returns g c = λ entries all kinds.
    let counts = c.counts_in.ensures ∙ (ap counts_in kinds ∙ counts_told entries) in
    subst (Writes (g.K.Sink.seen c.args.sink.now)
    (g.K.Sink.seen c.print_lines.new.sink) c.print_lines.result)
    (λ i. summary_lines c.args.make (counts i) (all i)) c.print_lines.ensures
