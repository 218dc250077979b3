use Rattle.std.proofs.Common.{Bool, ◌+◌, ◌-◌, ◌/◌, sym, ap, ◌∙◌}
use Rattle.std.specs.Prelude.{◌||◌}
use Rattle.std.specs.List.{list_any, range_with_len}
use Rattle.vm_types.specs.declared.limits.TheConstants.{PAGE_BYTES}
use Rattle.state_pages.specs.ServiceAnswers.{has_entry}
use Rattle.state_pages.proofs.RangeSteps.{any_step}
use Rattle.state_pages.proofs.service_answers.some_entry.Goals as goal

pub loop-n-preserved : goal.loop-n-preserved
loop-n-preserved c =
    c.loop-n.invariant
    ∙ any_step (has_entry c.args.tables.now c.args.p.0 c.args.mapped) (c.args.at.0 / PAGE_BYTES) c.loop-n.n c.args.pages c.loop-n-test.true
    ∙ ap (λ (b : Bool). b || list_any (has_entry c.args.tables.now c.args.p.0 c.args.mapped) (range_with_len (c.args.at.0 / PAGE_BYTES + (c.loop-n.n + 1)) (c.args.pages - (c.loop-n.n + 1)))) (sym c.has_entry.ensures ∙ c.if-has_entry.false)
