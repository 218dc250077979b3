use Rattle.std.proofs.Common.{IsNone, sym, ◌∙◌}
use Rattle.shadow_pager.specs.Shown.{shown}
use Rattle.row_frames.proofs.FaultReads.{fault_read}
use Rattle.row_frames.proofs.reads.in_fault_fails.Goals as goal

pub returns-in-Some-clause-legal : goal.returns-in-Some-clause-legal
returns-in-Some-clause-legal c =
    let past = c.args.past.now in
    fault_read past.config past.past (shown c.args.pager.now).pager c.args.read.seat.0 c.args.read.frame.0 c.args.read.block c.args.q.0 c.args.a.0 c.in-Some.page (IsNone c.fault_page_fails.result)
    (sym c.page_of.ensures ∙ c.in-Some.is) c.fault_page_fails.ensures.legal
