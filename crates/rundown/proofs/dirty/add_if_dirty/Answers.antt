use Rattle.std.proofs.Common.{◌∙◌, sym}
use Rattle.pager_model.specs.DirtyPages.{is_dirty}
use Rattle.vm_state.specs.History.{pager}
use Rattle.rundown.proofs.DirtyHeld.{none_added, one_added}
use Rattle.rundown.proofs.dirty.add_if_dirty.Goals as goal

pub returns-then-not-is_dirty : goal.returns-then-not-is_dirty
returns-then-not-is_dirty g c = none_added (is_dirty c.args.state.now.config (pager c.args.state.now)) c.args.page (c.args.pages.now).items (sym c.is_dirty.ensures ∙ c.if-not-is_dirty.true)

pub returns : goal.returns
returns g c =
    one_added (is_dirty c.args.state.now.config (pager c.args.state.now)) c.args.page (c.args.pages.now).items (c.push.new.self).items (sym c.is_dirty.ensures ∙ c.if-not-is_dirty.false) c.in_ok-push.ensures.items
