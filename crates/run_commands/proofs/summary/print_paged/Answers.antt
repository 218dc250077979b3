use Rattle.std.proofs.Common.{List, ℕ, decimal, subst}
use Rattle.std.specs.Prelude.{codes}
use Rattle.outside_io.specs.Writes.{Writes}
use Rattle.run_words.specs.Text.{ended}
use Rattle.run_commands.proofs.PartsInLine.{five_parts}
use Rattle.run_commands.proofs.summary.print_paged.Goals as goal

pub returns : goal.returns
returns g c =
    let counts = c.args.counts.now in
    subst (λ (line : List ℕ). Writes (g.K.Sink.seen c.args.sink.now) (g.K.Sink.seen c.print_numbers.new.sink) c.print_numbers.result (ended line))
    (five_parts (codes "ZERO ") (decimal counts.zeros) (codes " BACK ") (decimal counts.backs) (codes " IN ") (decimal counts.reads) (codes " OUT ") (decimal counts.writes) (codes " EVICT ") (decimal counts.evictions))
    c.print_numbers.ensures
