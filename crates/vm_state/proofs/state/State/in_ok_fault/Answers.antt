use Rattle.std.proofs.Common.{refl, sym, ap, ◌∙◌, subst, arith}
use Rattle.frame_store.specs.StoreView.{StoreView}
use Rattle.pfn_database.specs.Frames.{Frames, row_of}
use Rattle.pfn_database.specs.declared.row.Row.{Row}
use Rattle.vm_journal.specs.declared.entry.Role.TheVariants as role
use Rattle.vm_journal.specs.declared.entry.What.TheVariants as what
use Rattle.vm_state.specs.History.{History, entry_by}
use Rattle.vm_state.specs.ReadRoles.{IsReadAs}
use Rattle.vm_state.proofs.Closing.{may_before, pushed}
use Rattle.vm_state.proofs.InOkCloses as ended
use Rattle.vm_state.proofs.Numbered.{numbered}
use Rattle.vm_state.proofs.ReadLands.{fits_before}
use Rattle.vm_state.proofs.ReadsValid as close
use Rattle.vm_state.proofs.state.State.in_ok_fault.Goals as goal

pub row-kept-requires : goal.row-kept-requires
row-kept-requires g c = rw ((c.frames.ensures ∙ (ap (λ (s : StoreView g.row.B.Denot). s.frames) c.land.ensures.store)), c.frame-f.ensures) ((ended.can c.self.invariant c.args.seat c.args.lift (may_before c.self.view_is c.requires.well.may).legal (fits_before g.B.Block.seen g.B.Block.tells c.args.lift c.self.view_is c.requires.well.fits)).below)

pub unwrap-page-requires : goal.unwrap-page-requires
unwrap-page-requires g c = rw (c.row-kept.ensures.row, (c.frames.ensures ∙ (ap (λ (s : StoreView g.row.B.Denot). s.frames) c.land.ensures.store)), c.frame-f.ensures) (close.row_held c.self.invariant c.args.seat c.args.lift (may_before c.self.view_is c.requires.well.may).legal (fits_before g.B.Block.seen g.B.Block.tells c.args.lift c.self.view_is c.requires.well.fits) c.args.q c.args.a)

pub index_mut-row-requires : goal.index_mut-row-requires
index_mut-row-requires g c = let less = (close.fault_can c.self.invariant c.args.seat c.args.lift (may_before c.self.view_is c.requires.well.may).legal (fits_before g.B.Block.seen g.B.Block.tells c.args.lift c.self.view_is c.requires.well.fits) c.args.q c.args.a (subst (λ (s : History). IsReadAs s.past c.args.lift.start (role.Fault c.args.q c.args.a)) (sym c.self.view_is) c.requires.role)).process in omega (arith, less)

pub take_slot-slot-requires-clause-below : goal.take_slot-slot-requires-clause-below
take_slot-slot-requires-clause-below g c = (close.fault_slot c.self.invariant c.args.seat c.args.lift (may_before c.self.view_is c.requires.well.may).legal (fits_before g.B.Block.seen g.B.Block.tells c.args.lift c.self.view_is c.requires.well.fits) c.args.q c.args.a (subst (λ (s : History). IsReadAs s.past c.args.lift.start (role.Fault c.args.q c.args.a)) (sym c.self.view_is) c.requires.role) c.index_mut-row.result.now c.index_mut-row.ensures.value).0

pub take_slot-slot-requires-clause-limit : goal.take_slot-slot-requires-clause-limit
take_slot-slot-requires-clause-limit g c = (close.fault_slot c.self.invariant c.args.seat c.args.lift (may_before c.self.view_is c.requires.well.may).legal (fits_before g.B.Block.seen g.B.Block.tells c.args.lift c.self.view_is c.requires.well.fits) c.args.q c.args.a (subst (λ (s : History). IsReadAs s.past c.args.lift.start (role.Fault c.args.q c.args.a)) (sym c.self.view_is) c.requires.role) c.index_mut-row.result.now c.index_mut-row.ensures.value).1

pub end_read-requires-clause-below : goal.end_read-requires-clause-below
end_read-requires-clause-below g c = rw ((c.frames_mut.ensures.value ∙ (ap (λ (s : StoreView g.row.B.Denot). s.frames) c.land.ensures.store)), c.frame-f.ensures) ((ended.can c.self.invariant c.args.seat c.args.lift (may_before c.self.view_is c.requires.well.may).legal (fits_before g.B.Block.seen g.B.Block.tells c.args.lift c.self.view_is c.requires.well.fits)).below)

pub end_read-requires-clause-reading : goal.end_read-requires-clause-reading
end_read-requires-clause-reading g c = rw ((c.frames_mut.ensures.value ∙ (ap (λ (s : StoreView g.row.B.Denot). s.frames) c.land.ensures.store)), c.frame-f.ensures) (ended.is_reading c.self.invariant c.args.seat c.args.lift (may_before c.self.view_is c.requires.well.may).legal (fits_before g.B.Block.seen g.B.Block.tells c.args.lift c.self.view_is c.requires.well.fits))

pub end_read-requires-clause-flights : goal.end_read-requires-clause-flights
end_read-requires-clause-flights g c = rw ((c.frames_mut.ensures.value ∙ (ap (λ (s : StoreView g.row.B.Denot). s.frames) c.land.ensures.store)), c.frame-f.ensures) (ended.one_flight c.self.invariant c.args.seat c.args.lift (may_before c.self.view_is c.requires.well.may).legal (fits_before g.B.Block.seen g.B.Block.tells c.args.lift c.self.view_is c.requires.well.fits))

pub make_valid-requires-clause-mapped : goal.make_valid-requires-clause-mapped
make_valid-requires-clause-mapped g c = (close.fault_can c.self.invariant c.args.seat c.args.lift (may_before c.self.view_is c.requires.well.may).legal (fits_before g.B.Block.seen g.B.Block.tells c.args.lift c.self.view_is c.requires.well.fits) c.args.q c.args.a (subst (λ (s : History). IsReadAs s.past c.args.lift.start (role.Fault c.args.q c.args.a)) (sym c.self.view_is) c.requires.role)).mapped

pub make_valid-requires-clause-entry : goal.make_valid-requires-clause-entry
make_valid-requires-clause-entry g c = λ pte there. rw c.frame-f.ensures ((close.fault_can c.self.invariant c.args.seat c.args.lift (may_before c.self.view_is c.requires.well.may).legal (fits_before g.B.Block.seen g.B.Block.tells c.args.lift c.self.view_is c.requires.well.fits) c.args.q c.args.a (subst (λ (s : History). IsReadAs s.past c.args.lift.start (role.Fault c.args.q c.args.a)) (sym c.self.view_is) c.requires.role)).entry pte there)

pub share-requires : goal.share-requires
share-requires g c =
    let page = sym (ap (λ (z : Row). z.page) (c.row-kept.ensures.row ∙ ap (λ (fs : Frames). row_of fs c.frame-f.result.0) (c.frames.ensures ∙ (ap (λ (s : StoreView g.row.B.Denot). s.frames) c.land.ensures.store)))) ∙ c.unwrap-page.ensures in (
      c.self.inside.config,
      rw c.deref.ensures.value (numbered c.self.invariant c.frame-f.result.0 c.unwrap-page.result page),
      close.fault_share c.self.invariant c.args.seat c.args.lift (may_before c.self.view_is c.requires.well.may).legal (fits_before g.B.Block.seen g.B.Block.tells c.args.lift c.self.view_is c.requires.well.fits) c.args.q c.args.a (subst (λ (s : History). IsReadAs s.past c.args.lift.start (role.Fault c.args.q c.args.a)) (sym c.self.view_is) c.requires.role) c.unwrap-page.result (rw (← c.frame-f.ensures) page),
    )

pub index_mut-role-requires : goal.index_mut-role-requires
index_mut-role-requires g c = let less = (ended.can c.self.invariant c.args.seat c.args.lift (may_before c.self.view_is c.requires.well.may).legal (fits_before g.B.Block.seen g.B.Block.tells c.args.lift c.self.view_is c.requires.well.fits)).roles in omega (arith, less, c.frame-f.ensures, c.self.inside.roles.ok.0)

pub end_transfer-requires-clause-seat : goal.end_transfer-requires-clause-seat
end_transfer-requires-clause-seat g c = (ended.can c.self.invariant c.args.seat c.args.lift (may_before c.self.view_is c.requires.well.may).legal (fits_before g.B.Block.seen g.B.Block.tells c.args.lift c.self.view_is c.requires.well.fits)).busy c.index_mut.result.now c.index_mut.ensures.value

pub end_transfer-requires-clause-all : goal.end_transfer-requires-clause-all
end_transfer-requires-clause-all g c = (ended.can c.self.invariant c.args.seat c.args.lift (may_before c.self.view_is c.requires.well.may).legal (fits_before g.B.Block.seen g.B.Block.tells c.args.lift c.self.view_is c.requires.well.fits)).in_flight

pub land-requires-clause-frame : goal.land-requires-clause-frame
land-requires-clause-frame g c κs within = ended.frame_there c.self.invariant c.args.seat c.args.lift (may_before c.self.view_is c.requires.well.may).legal (fits_before g.B.Block.seen g.B.Block.tells c.args.lift c.self.view_is c.requires.well.fits)

pub land-requires-clause-buffer : goal.land-requires-clause-buffer
land-requires-clause-buffer g c κs within = λ reads. ended.buffer_out c.self.invariant c.args.seat c.args.lift (may_before c.self.view_is c.requires.well.may).legal (fits_before g.B.Block.seen g.B.Block.tells c.args.lift c.self.view_is c.requires.well.fits)

pub land-requires-clause-block : goal.land-requires-clause-block
land-requires-clause-block g c κs within = ended.block_out c.self.invariant c.args.seat c.args.lift (may_before c.self.view_is c.requires.well.may).legal (fits_before g.B.Block.seen g.B.Block.tells c.args.lift c.self.view_is c.requires.well.fits)

pub invariant_of-self : goal.invariant_of-self
invariant_of-self g c =
    let may = may_before c.self.view_is c.requires.well.may in
    let page = sym (ap (λ (z : Row). z.page) (c.row-kept.ensures.row ∙ ap (λ (fs : Frames). row_of fs c.frame-f.result.0) (c.frames.ensures ∙ (ap (λ (s : StoreView g.row.B.Denot). s.frames) c.land.ensures.store)))) ∙ c.unwrap-page.ensures in
    rw (c.end_transfer.ensures.role, c.end_transfer.ensures.seat, c.end_transfer.ensures.all) (pushed _ _ (entry_by c.args.seat (what.InOk c.frame-f.result c.start-k.result)) c.push.new.self c.push.ensures
    (close.fault_closes c.self.invariant c.args.seat c.args.lift (may_before c.self.view_is c.requires.well.may).legal (fits_before g.B.Block.seen g.B.Block.tells c.args.lift c.self.view_is c.requires.well.fits) c.args.q c.args.a (subst (λ (s : History). IsReadAs s.past c.args.lift.start (role.Fault c.args.q c.args.a)) (sym c.self.view_is) c.requires.role)
    c.unwrap-page.result (rw (← c.frame-f.ensures) page) c.index_mut-row.result.now c.index_mut-row.ensures.value c.take_slot-slot.result c.take_slot-slot.ensures.offered
    c.end_read.new.frames (rw (← (c.frames_mut.ensures.value ∙ (ap (λ (s : StoreView g.row.B.Denot). s.frames) c.land.ensures.store))) c.end_read.ensures.free) (rw (← (c.frames_mut.ensures.value ∙ (ap (λ (s : StoreView g.row.B.Denot). s.frames) c.land.ensures.store))) c.end_read.ensures.modified)
    c.make_valid.new.tables c.make_valid.ensures.changed.0 c.make_valid.ensures.changed.1 c.make_valid.ensures.procs c.share.new.globals
    (c.share.ensures c.self.inside.config (rw c.deref.ensures.value (numbered c.self.invariant c.frame-f.result.0 c.unwrap-page.result page)))
    (record c.land.new.self { frames = c.end_read.new.frames }) (ap (λ (s : StoreView g.row.B.Denot). record s { frames = c.end_read.new.frames }) c.land.ensures.store) c.index_mut.result.now c.index_mut.ensures.value refl
    c.take_slot-slot.new.ring c.take_slot-slot.ensures.placed c.id-block.result c.id-block.ensures c.first_read-modify.result c.first_read-modify.ensures c.frame_slot-held.result c.frame_slot-held.ensures
    c.frame-f.result c.start-k.result c.frame-f.ensures c.start-k.ensures c.requires.well.ended c.land.ensures.size may.paid
    (rw (← (c.frames_mut.ensures.value ∙ (ap (λ (s : StoreView g.row.B.Denot). s.frames) c.land.ensures.store))) c.end_read.ensures.rows) c.make_valid.ensures.changed.2))
