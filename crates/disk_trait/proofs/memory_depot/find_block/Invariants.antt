-- no block so far has the name
use Rattle.std.proofs.Common.{map, take}
use Rattle.std.specs.Prelude.{Contains}
use Rattle.disk_trait.proofs.memory_depot.find_block.Given as goal

abbrev pub invariant-loop-name : goal.invariant-loop-name
invariant-loop-name l = Contains (map (λ p. p.0) (take l.name-index l.blocks)) l.id → ⊥
