use Rattle.std.proofs.Common.{◌≡◌}
use Rattle.trace_maker.specs.Made.{made_maps}
use Rattle.trace_maker.proofs.machine.mappings.Given as goal

abbrev pub invariant-loop-p : goal.invariant-loop-p
invariant-loop-p l = l.maps ≡ made_maps l.p
