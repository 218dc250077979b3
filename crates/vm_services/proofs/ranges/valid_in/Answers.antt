use Rattle.std.proofs.Common.{◌/◌, sym, ◌∙◌}
use Rattle.vm_types.specs.declared.limits.TheConstants.{PAGE_BYTES}
use Rattle.pager_policy.specs.Serve.{is_valid_at}
use Rattle.vm_state.specs.History.{pager}
use Rattle.vm_services.proofs.Searches.{find_here, find_on}
use Rattle.vm_services.proofs.ranges.valid_in.Goals as goal

pub loop-n-preserved : goal.loop-n-preserved
loop-n-preserved g c =
    c.loop-n.invariant
    ∙ find_on (is_valid_at (pager c.args.state.now) c.args.p.0) (c.args.at.0 / PAGE_BYTES) c.loop-n.n c.args.pages c.loop-n-test.true (sym c.is_valid_at.ensures ∙ c.if-is_valid_at.false)

pub returns-then-is_valid_at : goal.returns-then-is_valid_at
returns-then-is_valid_at g c =
    sym (c.loop-n.invariant
    ∙ find_here (is_valid_at (pager c.args.state.now) c.args.p.0) (c.args.at.0 / PAGE_BYTES) c.loop-n.n c.args.pages c.loop-n-test.true (sym c.is_valid_at.ensures ∙ c.if-is_valid_at.true))
