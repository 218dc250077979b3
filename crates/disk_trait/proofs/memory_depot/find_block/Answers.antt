use Rattle.std.proofs.Common.{rules, ◌≡◌}
use Rattle.disk_trait.proofs.Among.{not_among_more}
use Rattle.disk_trait.proofs.memory_depot.find_block.Goals as goal

pub loop-name-preserved : goal.loop-name-preserved
loop-name-preserved c =
    let differs : c.loop-name-item.result.0 ≡ c.args.id → ⊥ = search rules in
    not_among_more _ _ _ _ _ c.loop-name-test.true c.loop-name-item.is differs c.loop-name.invariant
