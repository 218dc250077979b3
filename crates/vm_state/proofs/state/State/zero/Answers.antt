use Rattle.std.proofs.Common.{refl, IsSome, subst, sym, arith}
use Rattle.vm_state.specs.History.{entry_by}
use Rattle.vm_state.proofs.Closing.{may_before, pushed}
use Rattle.vm_state.proofs.SimpleCloses.{faults_few}
use Rattle.vm_state.proofs.ZeroCloses as close
use Rattle.vm_journal.specs.declared.entry.What.TheVariants as what
use Rattle.vm_state.proofs.state.State.zero.Goals as goal

pub unwrap-page-requires : goal.unwrap-page-requires
unwrap-page-requires g c = close.page_there c.self.invariant c.args.seat c.args.a c.args.f (may_before c.self.view_is c.requires).legal c.mapped_page.result c.mapped_page.ensures

pub take_slot-slot-requires-clause-limit : goal.take_slot-slot-requires-clause-limit
take_slot-slot-requires-clause-limit g c = close.limit_most c.self.invariant c.args.seat c.args.a c.args.f (may_before c.self.view_is c.requires).legal c.index_mut-row.result.now c.index_mut-row.ensures.value

pub overflow_add-row : goal.overflow_add-row
overflow_add-row g c =
    let may = may_before c.self.view_is c.requires in
    let few = faults_few c.self.invariant c.args.seat.0 c.index_mut-row.result.now may.legal.row.own.process c.index_mut-row.ensures.value in
    let short = c.self.invariant.short in
    omega (arith, few, short)

pub enter-requires-clause-below : goal.enter-requires-clause-below
enter-requires-clause-below g c = rw c.frames_mut.ensures.value (close.below c.self.invariant c.args.seat c.args.a c.args.f (may_before c.self.view_is c.requires).legal)

pub enter-requires-clause-usable : goal.enter-requires-clause-usable
enter-requires-clause-usable g c = rw c.frames_mut.ensures.value (close.usable c.self.invariant c.args.seat c.args.a c.args.f (may_before c.self.view_is c.requires).legal)

pub enter-requires-clause-page : goal.enter-requires-clause-page
enter-requires-clause-page g c = rw c.frames_mut.ensures.value (close.no_page c.self.invariant c.args.seat c.args.a c.args.f (may_before c.self.view_is c.requires).legal c.unwrap-page.result)

pub enter-requires-clause-shares : goal.enter-requires-clause-shares
enter-requires-clause-shares g c = rw c.frames_mut.ensures.value (close.few_shares c.self.invariant c.args.seat c.args.a c.args.f (may_before c.self.view_is c.requires).legal)

pub zero-requires-after_bounds : goal.zero-requires-after_bounds
zero-requires-after_bounds g c = λ κs outlives. close.buffer_there c.self.invariant c.args.seat c.args.a c.args.f (may_before c.self.view_is c.requires).legal

pub make_valid-requires-clause-mapped : goal.make_valid-requires-clause-mapped
make_valid-requires-clause-mapped g c = subst IsSome (sym (close.entry_there c.self.invariant c.args.seat c.args.a c.args.f (may_before c.self.view_is c.requires).legal).1) refl

pub make_valid-requires-clause-entry : goal.make_valid-requires-clause-entry
make_valid-requires-clause-entry g c = close.entry_good c.self.invariant c.args.seat c.args.a c.args.f (may_before c.self.view_is c.requires).legal

pub hold-requires : goal.hold-requires
hold-requires g c =
    let is = close.page_is c.self.invariant c.args.seat c.args.a c.args.f (may_before c.self.view_is c.requires).legal c.mapped_page.result c.mapped_page.ensures c.unwrap-page.result c.unwrap-page.ensures in (
      c.self.inside.config,
      rw c.deref.ensures.value (close.numbered c.self.invariant c.args.seat c.args.a c.args.f (may_before c.self.view_is c.requires).legal c.unwrap-page.result is),
      close.may_hold c.self.invariant c.args.seat c.args.a c.args.f (may_before c.self.view_is c.requires).legal c.unwrap-page.result is,
    )

pub share-requires : goal.share-requires
share-requires g c =
    let is = close.page_is c.self.invariant c.args.seat c.args.a c.args.f (may_before c.self.view_is c.requires).legal c.mapped_page.result c.mapped_page.ensures c.unwrap-page.result c.unwrap-page.ensures in (
      c.self.inside.config,
      rw c.deref-2.ensures.value (close.numbered c.self.invariant c.args.seat c.args.a c.args.f (may_before c.self.view_is c.requires).legal c.unwrap-page.result is),
      close.may_share c.self.invariant c.args.seat c.args.a c.args.f (may_before c.self.view_is c.requires).legal c.unwrap-page.result is c.hold.new.globals (c.hold.ensures c.self.inside.config (rw c.deref.ensures.value (close.numbered c.self.invariant c.args.seat c.args.a c.args.f (may_before c.self.view_is c.requires).legal c.unwrap-page.result is))),
    )

pub set-requires : goal.set-requires
set-requires g c = close.has_place c.self.invariant c.args.seat c.args.a c.args.f (may_before c.self.view_is c.requires).legal c.unwrap-page.result (close.page_is c.self.invariant c.args.seat c.args.a c.args.f (may_before c.self.view_is c.requires).legal c.mapped_page.result c.mapped_page.ensures c.unwrap-page.result c.unwrap-page.ensures)

pub invariant_of-self : goal.invariant_of-self
invariant_of-self g c =
    let may = may_before c.self.view_is c.requires in
    let is = (close.page_is c.self.invariant c.args.seat c.args.a c.args.f (may_before c.self.view_is c.requires).legal c.mapped_page.result c.mapped_page.ensures c.unwrap-page.result c.unwrap-page.ensures) in
    pushed _ _ (entry_by c.args.seat (what.Zero c.args.a c.args.f)) c.push.new.self c.push.ensures
    (close.zero_closes c.self.invariant c.args.seat c.args.a c.args.f may.legal refl may.paid c.index_mut-row.result.now c.index_mut-row.ensures.value
    c.take_slot-slot.result c.take_slot-slot.new.ring c.take_slot-slot.ensures.offered c.take_slot-slot.ensures.placed c.enter.new.frames
    c.unwrap-page.result is c.frame_slot-held.result c.frame_slot-held.ensures
    (rw (← c.frames_mut.ensures.value) c.enter.ensures.rows) (rw (← c.frames_mut.ensures.value) c.enter.ensures.free) (rw (← c.frames_mut.ensures.value) c.enter.ensures.modified)
    c.zero.new.self c.zero.ensures
    c.make_valid.new.tables c.make_valid.ensures.changed.0 c.make_valid.ensures.procs c.make_valid.ensures.changed.2
    c.make_valid.ensures.changed.1
    c.hold.new.globals c.share.new.globals
    (c.hold.ensures c.self.inside.config (rw c.deref.ensures.value (close.numbered c.self.invariant c.args.seat c.args.a c.args.f (may_before c.self.view_is c.requires).legal c.unwrap-page.result is)))
    (c.share.ensures c.self.inside.config (rw c.deref-2.ensures.value (close.numbered c.self.invariant c.args.seat c.args.a c.args.f (may_before c.self.view_is c.requires).legal c.unwrap-page.result is)))
    c.set.new.self c.set.ensures
    c.charge.new.self (close.went_well c.charge.result c.charge.ensures.full (close.room c.self.invariant c.args.seat c.args.a c.args.f may.legal) c.charge.ensures.ok))
