use Rattle.std.proofs.Common.{ap, ◌∙◌}
use Rattle.frame_store.specs.Blocks.{page_counts}
use Rattle.frame_store.specs.Numbers.{firsts}
use Rattle.first_parts.proofs.FirstPages.{has_firsts}
use Rattle.first_parts.proofs.page_parts.first_pages.Goals as goal

pub returns-clause-firsts : goal.returns-clause-firsts
returns-clause-firsts c = has_firsts c.args.config.now c.in_ok-firsts.field-0.0.items (c.in_ok-firsts.ensures.numbers ∙ ap (firsts 0) (c.deref.ensures.value ∙ (c.in_ok-counts.ensures ∙ ap page_counts c.items.ensures)))
