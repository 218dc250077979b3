use Rattle.std.proofs.Common.{sym, ap, ◌∙◌}
use Rattle.pfn_database.specs.Frames.{Frames, row_of}
use Rattle.pfn_database.specs.declared.row.Row.{Row}
use Rattle.vm_journal.specs.declared.entry.What.TheVariants as what
use Rattle.vm_state.specs.History.{entry_by}
use Rattle.state_pages.specs.RingSlots.{mark_back}
use Rattle.vm_state.proofs.BackCloses as close
use Rattle.vm_state.proofs.Closing.{may_before, pushed}
use Rattle.vm_state.proofs.Numbered.{numbered}
use Rattle.vm_state.proofs.state.State.back.Goals as goal

pub row-kept-requires : goal.row-kept-requires
row-kept-requires g c = rw c.frames.ensures ((close.can c.self.invariant c.args.seat c.args.p c.args.a c.args.f c.args.from (may_before c.self.view_is c.requires).legal).enter.below)

pub unwrap-page-requires : goal.unwrap-page-requires
unwrap-page-requires g c = rw (c.row-kept.ensures.row, c.frames.ensures) ((close.can c.self.invariant c.args.seat c.args.p c.args.a c.args.f c.args.from (may_before c.self.view_is c.requires).legal).enter.held)

pub enter_ring-slot-requires : goal.enter_ring-slot-requires
enter_ring-slot-requires g c = close.can_take c.self.invariant c.args.seat c.args.p c.args.a c.args.f c.args.from (may_before c.self.view_is c.requires).legal c.index_mut-row.result.now c.index_mut-row.ensures.value

pub enter-requires-clause-usable : goal.enter-requires-clause-usable
enter-requires-clause-usable g c = rw c.frames_mut.ensures.value ((close.can c.self.invariant c.args.seat c.args.p c.args.a c.args.f c.args.from (may_before c.self.view_is c.requires).legal).usable)

pub enter-requires-clause-shares : goal.enter-requires-clause-shares
enter-requires-clause-shares g c = rw c.frames_mut.ensures.value ((close.can c.self.invariant c.args.seat c.args.p c.args.a c.args.f c.args.from (may_before c.self.view_is c.requires).legal).enter.shares)

pub make_valid-requires-clause-mapped : goal.make_valid-requires-clause-mapped
make_valid-requires-clause-mapped g c = (close.can c.self.invariant c.args.seat c.args.p c.args.a c.args.f c.args.from (may_before c.self.view_is c.requires).legal).enter.mapped

pub make_valid-requires-clause-entry : goal.make_valid-requires-clause-entry
make_valid-requires-clause-entry g c = (close.can c.self.invariant c.args.seat c.args.p c.args.a c.args.f c.args.from (may_before c.self.view_is c.requires).legal).enter.entry

pub share-requires : goal.share-requires
share-requires g c =
    let page = sym (ap (λ (z : Row). z.page) (c.row-kept.ensures.row ∙ ap (λ (fs : Frames). row_of fs c.args.f.0) c.frames.ensures)) ∙ c.unwrap-page.ensures in (
      c.self.inside.config,
      rw c.deref.ensures.value (numbered c.self.invariant c.args.f.0 c.unwrap-page.result page),
      close.may_share c.self.invariant c.args.seat c.args.p c.args.a c.args.f c.args.from (may_before c.self.view_is c.requires).legal c.unwrap-page.result page,
    )

pub invariant_of-self : goal.invariant_of-self
invariant_of-self g c =
    let may = may_before c.self.view_is c.requires in
    let kept = c.row-kept.ensures.row ∙ ap (λ (fs : Frames). row_of fs c.args.f.0) c.frames.ensures in
    let page = sym (ap (λ (z : Row). z.page) kept) ∙ c.unwrap-page.ensures in
    let marked = c.marked_back-modify.ensures ∙ ap (λ (z : Row). mark_back c.index_mut-row.result.now.status z.modify) kept in
    pushed _ _ (entry_by c.args.seat (what.Back c.args.p c.args.a c.args.f c.args.from)) c.push.new.self c.push.ensures
    (close.back_closes c.self.invariant c.args.seat c.args.p c.args.a c.args.f c.args.from may.legal c.index_mut-row.result.now c.index_mut-row.ensures.value
    c.unwrap-page.result page c.enter_ring-slot.new.row c.enter_ring-slot.result c.enter.new.frames
    (rw (← c.frames_mut.ensures.value) c.enter.ensures.free) (rw (← c.frames_mut.ensures.value) c.enter.ensures.modified)
    c.make_valid.new.tables c.make_valid.ensures.changed.0 c.make_valid.ensures.procs c.make_valid.ensures.changed.2
    c.make_valid.ensures.changed.1
    c.enter_ring-slot.new.pages c.enter_ring-slot.new.swaps c.share.new.globals
    (c.share.ensures c.self.inside.config (rw c.deref.ensures.value (numbered c.self.invariant c.args.f.0 c.unwrap-page.result page)))
    may.paid c.enter_ring-slot.ensures c.marked_back-modify.result marked c.frame_slot-held.result c.frame_slot-held.ensures
    (rw (← c.frames_mut.ensures.value) c.enter.ensures.rows))
