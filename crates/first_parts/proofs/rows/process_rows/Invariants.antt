use Rattle.std.proofs.Common.{◌≡◌, take, map}
use Rattle.state_fits.specs.Opening.{first_row}
use Rattle.first_parts.proofs.rows.process_rows.Given as goal

-- a row for each process before this one
abbrev pub invariant-loop-spec : goal.invariant-loop-spec
invariant-loop-spec l = l.rows.items ≡ map first_row (take l.spec-index l.specs)
