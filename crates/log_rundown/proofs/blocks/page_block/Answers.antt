use Rattle.std.proofs.Common.{Bool, cond, sym, ap, ◌∙◌}
use Rattle.pager_model.specs.Lookups.{block_of}
use Rattle.pager_model.specs.Pager.{Pager}
use Rattle.pager_policy.specs.WriteCluster.{filed_block, paged_block}
use Rattle.shadow_pager.specs.Shown.{shown}
use Rattle.log_rundown.proofs.blocks.page_block.Goals as goal

pub returns-then-is_paged : goal.returns-then-is_paged
returns-then-is_paged c =
    let a : Pager = (shown c.args.pager.now).pager in
    c.paged_block.ensures
    ∙ sym (ap (λ (b : Bool). cond b (paged_block c.args.config.now a c.args.last (block_of a.assigned c.args.page)) (filed_block c.args.last (a.lies c.args.page))) (sym c.is_paged.ensures ∙ c.if-is_paged.true))

pub returns : goal.returns
returns c =
    let a : Pager = (shown c.args.pager.now).pager in
    c.filed_block.ensures
    ∙ sym (ap (λ (b : Bool). cond b (paged_block c.args.config.now a c.args.last (block_of a.assigned c.args.page)) (filed_block c.args.last (a.lies c.args.page))) (sym c.is_paged.ensures ∙ c.if-is_paged.false))
