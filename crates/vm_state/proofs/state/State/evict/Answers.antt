use Rattle.std.proofs.Common.{◌/◌, IsSome, sym, ap, ◌∙◌, subst}
use Rattle.vm_types.specs.declared.limits.TheConstants.{PAGE_BYTES}
use Rattle.pfn_database.specs.Frames.{Frames, row_of}
use Rattle.pfn_database.specs.declared.row.Row.{Row}
use Rattle.vm_journal.specs.declared.entry.What.TheVariants as what
use Rattle.vm_state.specs.History.{entry_by}
use Rattle.vm_state.proofs.Closing.{may_before, pushed}
use Rattle.vm_state.proofs.EvictCloses as close
use Rattle.state_pages.proofs.Looked.{looked}
use Rattle.vm_state.proofs.Numbered.{numbered}
use Rattle.vm_state.proofs.state.State.evict.Goals as goal

pub give_up-pinned-requires-clause-held : goal.give_up-pinned-requires-clause-held
give_up-pinned-requires-clause-held g c = (close.can c.self.invariant c.args.seat c.args.p c.args.a c.args.f c.args.why c.args.to (may_before c.self.view_is c.requires).legal).slot c.index_mut-row.result.now c.index_mut-row.ensures.value

pub give_up-pinned-requires-clause-victim : goal.give_up-pinned-requires-clause-victim
give_up-pinned-requires-clause-victim g c = (close.can c.self.invariant c.args.seat c.args.p c.args.a c.args.f c.args.why c.args.to (may_before c.self.view_is c.requires).legal).victim c.index_mut-row.result.now c.index_mut-row.ensures.value

pub row-kept-requires : goal.row-kept-requires
row-kept-requires g c = rw c.frames.ensures ((close.can c.self.invariant c.args.seat c.args.p c.args.a c.args.f c.args.why c.args.to (may_before c.self.view_is c.requires).legal).below)

pub unwrap-page-requires : goal.unwrap-page-requires
unwrap-page-requires g c = rw (c.row-kept.ensures.row, c.frames.ensures) ((close.can c.self.invariant c.args.seat c.args.p c.args.a c.args.f c.args.why c.args.to (may_before c.self.view_is c.requires).legal).held)

pub leave-requires-clause-row : goal.leave-requires-clause-row
leave-requires-clause-row g c = c.row-kept.ensures.row ∙ (ap (λ (fs : Frames). row_of fs c.args.f.0) c.frames.ensures ∙ sym (ap (λ (fs : Frames). row_of fs c.args.f.0) c.frames_mut.ensures.value))

pub leave-requires-clause-active : goal.leave-requires-clause-active
leave-requires-clause-active g c = rw c.frames_mut.ensures.value ((close.can c.self.invariant c.args.seat c.args.p c.args.a c.args.f c.args.why c.args.to (may_before c.self.view_is c.requires).legal).active)

pub leave-requires-clause-shares : goal.leave-requires-clause-shares
leave-requires-clause-shares g c = rw c.frames_mut.ensures.value ((close.can c.self.invariant c.args.seat c.args.p c.args.a c.args.f c.args.why c.args.to (may_before c.self.view_is c.requires).legal).shares)

pub leave-requires-clause-pins : goal.leave-requires-clause-pins
leave-requires-clause-pins g c = λ pinned. rw c.frames_mut.ensures.value ((close.can c.self.invariant c.args.seat c.args.p c.args.a c.args.f c.args.why c.args.to (may_before c.self.view_is c.requires).legal).pins c.index_mut-row.result.now c.index_mut-row.ensures.value (sym c.give_up-pinned.ensures.pinned ∙ pinned))

pub unwrap-prot-requires : goal.unwrap-prot-requires
unwrap-prot-requires g c =
    let there = (close.can c.self.invariant c.args.seat c.args.p c.args.a c.args.f c.args.why c.args.to (may_before c.self.view_is c.requires).legal).mapped in
    subst IsSome (sym (looked c.self.inside.tables c.args.p.0 (c.args.a.0 / PAGE_BYTES) c.look-look.result c.entry_in.result c.look-look.ensures.value c.entry_in.ensures)) there

pub left_at-place-requires : goal.left_at-place-requires
left_at-place-requires g c =
    let page = sym (ap (λ (z : Row). z.page) (c.row-kept.ensures.row ∙ ap (λ (fs : Frames). row_of fs c.args.f.0) c.frames.ensures)) ∙ c.unwrap-page.ensures in
    (c.self.inside.config, rw c.deref.ensures.value (numbered c.self.invariant c.args.f.0 c.unwrap-page.result page))

pub set-requires-clause-entry : goal.set-requires-clause-entry
set-requires-clause-entry g c =
    let page = sym (ap (λ (z : Row). z.page) (c.row-kept.ensures.row ∙ ap (λ (fs : Frames). row_of fs c.args.f.0) c.frames.ensures)) ∙ c.unwrap-page.ensures in
    let place_is = c.left_at-place.ensures c.self.inside.config (rw c.deref.ensures.value (numbered c.self.invariant c.args.f.0 c.unwrap-page.result page)) in
    rw place_is ((close.can c.self.invariant c.args.seat c.args.p c.args.a c.args.f c.args.why c.args.to (may_before c.self.view_is c.requires).legal).entry c.unwrap-page.result c.unwrap-prot.result page
    (sym (looked c.self.inside.tables c.args.p.0 (c.args.a.0 / PAGE_BYTES) c.look-look.result c.entry_in.result c.look-look.ensures.value c.entry_in.ensures) ∙ c.unwrap-prot.ensures))

pub unshare-requires : goal.unshare-requires
unshare-requires g c =
    let page = sym (ap (λ (z : Row). z.page) (c.row-kept.ensures.row ∙ ap (λ (fs : Frames). row_of fs c.args.f.0) c.frames.ensures)) ∙ c.unwrap-page.ensures in (
      c.self.inside.config,
      rw c.deref-2.ensures.value (numbered c.self.invariant c.args.f.0 c.unwrap-page.result page),
      close.shared c.self.invariant c.args.seat c.args.p c.args.a c.args.f c.args.why c.args.to (may_before c.self.view_is c.requires).legal c.unwrap-page.result page,
    )

pub invariant_of-self : goal.invariant_of-self
invariant_of-self g c =
    let may = may_before c.self.view_is c.requires in
    let page = sym (ap (λ (z : Row). z.page) (c.row-kept.ensures.row ∙ ap (λ (fs : Frames). row_of fs c.args.f.0) c.frames.ensures)) ∙ c.unwrap-page.ensures in
    let number = numbered c.self.invariant c.args.f.0 c.unwrap-page.result page in
    pushed _ _ (entry_by c.args.seat (what.Evict c.args.p c.args.a c.args.f c.args.why c.args.to)) c.push.new.self c.push.ensures
    (close.evict_closes c.self.invariant c.args.seat c.args.p c.args.a c.args.f c.args.why c.args.to may.legal may.paid c.index_mut-row.result.now c.index_mut-row.ensures.value
    c.give_up-pinned.new.ring c.give_up-pinned.ensures.ring c.give_up-pinned.result c.give_up-pinned.ensures.pinned c.unwrap-page.result page c.leave.new.frames
    (rw (← c.frames_mut.ensures.value) c.leave.ensures.rows) (rw (← c.frames_mut.ensures.value) c.leave.ensures.free) (rw (← c.frames_mut.ensures.value) c.leave.ensures.modified)
    c.left_at-place.result (c.left_at-place.ensures c.self.inside.config (rw c.deref.ensures.value number))
    c.set.new.self c.unwrap-prot.result c.set.ensures.procs c.set.ensures.changed
    (sym (looked c.self.inside.tables c.args.p.0 (c.args.a.0 / PAGE_BYTES) c.look-look.result c.entry_in.result c.look-look.ensures.value c.entry_in.ensures) ∙ c.unwrap-prot.ensures)
    c.unshare.new.globals (c.unshare.ensures c.self.inside.config (rw c.deref-2.ensures.value number)))
