use Rattle.std.proofs.Common.{ap, arith, length, sym}
use Rattle.vm_types.specs.declared.names.Page.TheVariants.{Shared}
use Rattle.pager_model.specs.DirtyPages.{is_dirty}
use Rattle.vm_state.specs.History.{pager}
use Rattle.rundown.proofs.DirtyHeld.{few_pages, more_added}
use Rattle.rundown.proofs.dirty.add_dirty.Goals as goal

pub overflow_cast-i-end-2 : goal.overflow_cast-i-end-2
overflow_cast-i-end-2 g c =
    let few = few_pages c.args.state.now.config.sections (c.args.s).0 c.args.section.now c.run_law.ensures.formed.sections.pages (sym c.requires) in
    omega (arith, few, ap length c.items-bytes.ensures)

pub loop-i-preserved : goal.loop-i-preserved
loop-i-preserved g c =
    more_added (is_dirty c.args.state.now.config (pager c.args.state.now)) (Shared c.args.s) c.loop-i.i (c.args.pages.now).items (c.loop-i.pages).items (c.add_if_dirty.new.pages).items c.loop-i.invariant c.in_ok-add_if_dirty.ensures
