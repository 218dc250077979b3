use Rattle.std.proofs.Common.{◌≡◌, []}
use Rattle.std.specs.Prelude.{replicate}
use Rattle.shadow_tables.proofs.valid_entries.no_sharers.Given as goal

abbrev pub invariant-loop : goal.invariant-loop
invariant-loop l = l.sharers.items ≡ replicate l.counter []
