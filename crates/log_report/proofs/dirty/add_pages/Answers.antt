use Rattle.std.proofs.Common.{ap, arith, length}
use Rattle.vm_types.specs.declared.names.Page.TheVariants.{Shared}
use Rattle.log_report.proofs.PagesAdded.{page_added}
use Rattle.log_report.proofs.dirty.add_pages.Goals as goal

pub overflow_cast-i-end : goal.overflow_cast-i-end
overflow_cast-i-end c = omega (arith, c.requires, ap length c.items-bytes.ensures)

pub loop-i-preserved : goal.loop-i-preserved
loop-i-preserved c =
    page_added (Shared c.args.s) c.loop-i.i (c.args.pages.now).items (c.loop-i.pages).items (c.push.new.self).items c.loop-i.invariant c.in_ok-push.ensures.items
