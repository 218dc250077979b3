use Rattle.vm_journal.specs.declared.entry.What.TheVariants as what
use Rattle.vm_state.specs.History.{entry_by}
use Rattle.vm_state.proofs.Closing.{may_before, pushed}
use Rattle.vm_state.proofs.ReuseCloses as close
use Rattle.vm_state.proofs.state.State.reuse.Goals as goal

pub empty_to_head-requires-clause-below : goal.empty_to_head-requires-clause-below
empty_to_head-requires-clause-below g c = rw c.frames_mut.ensures.value ((close.can c.self.invariant c.args.seat c.args.f c.args.page (may_before c.self.view_is c.requires).legal).below)

pub empty_to_head-requires-clause-state : goal.empty_to_head-requires-clause-state
empty_to_head-requires-clause-state g c = rw c.frames_mut.ensures.value ((close.can c.self.invariant c.args.seat c.args.f c.args.page (may_before c.self.view_is c.requires).legal).state)

pub empty_to_head-requires-clause-flights : goal.empty_to_head-requires-clause-flights
empty_to_head-requires-clause-flights g c = rw c.frames_mut.ensures.value ((close.can c.self.invariant c.args.seat c.args.f c.args.page (may_before c.self.view_is c.requires).legal).flights)

pub rest-requires : goal.rest-requires
rest-requires g c = (c.self.inside.config, rw c.deref.ensures.value (close.may_rest c.self.invariant c.args.seat c.args.f c.args.page (may_before c.self.view_is c.requires).legal))

pub release-requires : goal.release-requires
release-requires g c =
    let legal = (may_before c.self.view_is c.requires).legal in
    (c.self.inside.config, rw c.deref-2.ensures.value (close.numbered c.self.invariant c.args.seat c.args.f c.args.page legal), close.global c.self.invariant c.args.seat c.args.f c.args.page legal)

pub uncharge_unread-requires : goal.uncharge_unread-requires
uncharge_unread-requires g c = close.may_uncharge c.self.invariant c.args.seat c.args.f c.args.page (may_before c.self.view_is c.requires).legal

pub invariant_of-self : goal.invariant_of-self
invariant_of-self g c =
    let may = may_before c.self.view_is c.requires in
    pushed _ _ (entry_by c.args.seat (what.Reuse c.args.f c.args.page)) c.push.new.self c.push.ensures
    (close.reuse_closes c.self.invariant c.args.seat c.args.f c.args.page may.legal c.empty_to_head.new.self
    (rw (← c.frames_mut.ensures.value) c.empty_to_head.ensures.rows) (rw (← c.frames_mut.ensures.value) c.empty_to_head.ensures.free) (rw (← c.frames_mut.ensures.value) c.empty_to_head.ensures.modified)
    c.rest.new.tables c.release.new.globals c.uncharge_unread.new.pages c.uncharge_unread.new.file may.paid
    (c.rest.ensures c.self.inside.config (rw c.deref.ensures.value (close.may_rest c.self.invariant c.args.seat c.args.f c.args.page may.legal)))
    (c.release.ensures c.self.inside.config (rw c.deref-2.ensures.value (close.numbered c.self.invariant c.args.seat c.args.f c.args.page may.legal)))
    c.uncharge_unread.ensures)
