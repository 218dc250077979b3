use Rattle.std.proofs.Common.{◌≡◌, drop, find}
use Rattle.vm_types.specs.Same.{same_block}
use Rattle.vm_types.specs.declared.config.Fails.{Fails}
use Rattle.run_blocks.proofs.planned.planned_calls.Given as goal

-- those that are passed are of other blocks
abbrev pub invariant-loop-fails : goal.invariant-loop-fails
invariant-loop-fails l =
    find (λ (x : Fails). same_block l.id x.block) (drop l.fails-index l.config.fails) ≡ find (λ (x : Fails). same_block l.id x.block) l.config.fails
