use Rattle.std.proofs.Common.{◌<◌, ◌≤◌, ◌∙◌, List, ap, length, sym, subst}
use Rattle.vm_types.specs.Same.{same_block}
use Rattle.vm_types.specs.declared.config.Fails.{Fails}
use Rattle.pager_model.specs.CountedBlock.{calls_of}
use Rattle.run_blocks.proofs.ListItems.{found_here, found_later, found_nowhere}
use Rattle.run_blocks.proofs.planned.planned_calls.Goals as goal

pub loop-fails-preserved : goal.loop-fails-preserved
loop-fails-preserved c =
    found_later (λ (x : Fails). same_block c.args.id x.block) c.args.config.now.fails c.loop-fails.fails-index c.fails-item.result
    (subst (λ (xs : List Fails). c.loop-fails.fails-index < length xs) c.items-fails-items.ensures c.loop-fails-test.true) (cc) (sym c.is_same_block.ensures ∙ c.if-is_same_block.false)
    ∙ c.loop-fails.invariant

pub returns-then-is_same_block : goal.returns-then-is_same_block
returns-then-is_same_block c =
    c.items.ensures
    ∙ ap calls_of
    (sym (found_here (λ (x : Fails). same_block c.args.id x.block) c.args.config.now.fails c.loop-fails.fails-index c.fails-item.result
    (subst (λ (xs : List Fails). c.loop-fails.fails-index < length xs) c.items-fails-items.ensures c.loop-fails-test.true) (cc) (sym c.is_same_block.ensures ∙ c.if-is_same_block.true))
    ∙ c.loop-fails.invariant)

pub returns : goal.returns
returns c =
    ap calls_of
    (sym (found_nowhere (λ (x : Fails). same_block c.args.id x.block) c.args.config.now.fails c.loop-fails.fails-index
    (subst (λ (xs : List Fails). length xs ≤ c.loop-fails.fails-index) c.items-fails-items.ensures c.loop-fails-test.false))
    ∙ c.loop-fails.invariant)
