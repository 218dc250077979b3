use Rattle.std.proofs.Common.{◌≡◌, map, take}
use Rattle.shadow_tables.specs.Rings.{empty_ring}
use Rattle.shadow_pager.proofs.shadow_pager.rings_of.Given as goal

abbrev pub invariant-loop-spec : goal.invariant-loop-spec
invariant-loop-spec l = l.rings.items ≡ map empty_ring (take l.spec-index l.procs)
