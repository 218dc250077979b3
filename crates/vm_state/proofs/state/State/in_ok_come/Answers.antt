use Rattle.std.proofs.Common.{refl, sym, ◌∙◌, subst, arith, ap}
use Rattle.frame_store.specs.StoreView.{StoreView}
use Rattle.vm_journal.specs.declared.entry.Role.TheVariants as role
use Rattle.vm_journal.specs.declared.entry.What.TheVariants as what
use Rattle.vm_state.specs.History.{History, entry_by}
use Rattle.vm_state.specs.ReadRoles.{IsReadAs}
use Rattle.vm_state.proofs.Closing.{may_before, pushed}
use Rattle.vm_state.proofs.InOkCloses as ended
use Rattle.vm_state.proofs.ReadLands.{fits_before}
use Rattle.vm_state.proofs.ReadsComing as close
use Rattle.vm_state.proofs.state.State.in_ok_come.Goals as goal

pub index_mut-row-requires : goal.index_mut-row-requires
index_mut-row-requires g c = let less = (close.come_can c.self.invariant c.args.seat c.args.lift (may_before c.self.view_is c.requires.well.may).legal (fits_before g.B.Block.seen g.B.Block.tells c.args.lift c.self.view_is c.requires.well.fits) c.args.q c.args.a (subst (λ (s : History). IsReadAs s.past c.args.lift.start (role.Come c.args.q c.args.a)) (sym c.self.view_is) c.requires.role)).process in omega (arith, less)

pub come_home-slot-requires : goal.come_home-slot-requires
come_home-slot-requires g c = close.can_home c.self.invariant c.args.seat c.args.lift (may_before c.self.view_is c.requires.well.may).legal (fits_before g.B.Block.seen g.B.Block.tells c.args.lift c.self.view_is c.requires.well.fits) c.args.q c.args.a (subst (λ (s : History). IsReadAs s.past c.args.lift.start (role.Come c.args.q c.args.a)) (sym c.self.view_is) c.requires.role) c.index_mut-row.result.now c.index_mut-row.ensures.value

pub end_read-requires-clause-below : goal.end_read-requires-clause-below
end_read-requires-clause-below g c = rw ((c.frames_mut.ensures.value ∙ (ap (λ (s : StoreView g.row.B.Denot). s.frames) c.land.ensures.store)), c.frame-f.ensures) ((ended.can c.self.invariant c.args.seat c.args.lift (may_before c.self.view_is c.requires.well.may).legal (fits_before g.B.Block.seen g.B.Block.tells c.args.lift c.self.view_is c.requires.well.fits)).below)

pub end_read-requires-clause-reading : goal.end_read-requires-clause-reading
end_read-requires-clause-reading g c = rw ((c.frames_mut.ensures.value ∙ (ap (λ (s : StoreView g.row.B.Denot). s.frames) c.land.ensures.store)), c.frame-f.ensures) (ended.is_reading c.self.invariant c.args.seat c.args.lift (may_before c.self.view_is c.requires.well.may).legal (fits_before g.B.Block.seen g.B.Block.tells c.args.lift c.self.view_is c.requires.well.fits))

pub end_read-requires-clause-flights : goal.end_read-requires-clause-flights
end_read-requires-clause-flights g c = rw ((c.frames_mut.ensures.value ∙ (ap (λ (s : StoreView g.row.B.Denot). s.frames) c.land.ensures.store)), c.frame-f.ensures) (ended.one_flight c.self.invariant c.args.seat c.args.lift (may_before c.self.view_is c.requires.well.may).legal (fits_before g.B.Block.seen g.B.Block.tells c.args.lift c.self.view_is c.requires.well.fits))

pub end_read-requires-clause-page : goal.end_read-requires-clause-page
end_read-requires-clause-page g c = rw ((c.frames_mut.ensures.value ∙ (ap (λ (s : StoreView g.row.B.Denot). s.frames) c.land.ensures.store)), c.frame-f.ensures) (close.come_page c.self.invariant c.args.seat c.args.lift (may_before c.self.view_is c.requires.well.may).legal (fits_before g.B.Block.seen g.B.Block.tells c.args.lift c.self.view_is c.requires.well.fits) c.args.q c.args.a (subst (λ (s : History). IsReadAs s.past c.args.lift.start (role.Come c.args.q c.args.a)) (sym c.self.view_is) c.requires.role))

pub make_valid-requires-clause-mapped : goal.make_valid-requires-clause-mapped
make_valid-requires-clause-mapped g c = (close.come_can c.self.invariant c.args.seat c.args.lift (may_before c.self.view_is c.requires.well.may).legal (fits_before g.B.Block.seen g.B.Block.tells c.args.lift c.self.view_is c.requires.well.fits) c.args.q c.args.a (subst (λ (s : History). IsReadAs s.past c.args.lift.start (role.Come c.args.q c.args.a)) (sym c.self.view_is) c.requires.role)).mapped

pub make_valid-requires-clause-entry : goal.make_valid-requires-clause-entry
make_valid-requires-clause-entry g c = λ pte there. rw c.frame-f.ensures ((close.come_can c.self.invariant c.args.seat c.args.lift (may_before c.self.view_is c.requires.well.may).legal (fits_before g.B.Block.seen g.B.Block.tells c.args.lift c.self.view_is c.requires.well.fits) c.args.q c.args.a (subst (λ (s : History). IsReadAs s.past c.args.lift.start (role.Come c.args.q c.args.a)) (sym c.self.view_is) c.requires.role)).entry pte there)

pub index_mut-role-requires : goal.index_mut-role-requires
index_mut-role-requires g c = let less = (ended.can c.self.invariant c.args.seat c.args.lift (may_before c.self.view_is c.requires.well.may).legal (fits_before g.B.Block.seen g.B.Block.tells c.args.lift c.self.view_is c.requires.well.fits)).roles in omega (arith, less, c.frame-f.ensures, c.self.inside.roles.ok.0)

pub end_transfer-requires-clause-seat : goal.end_transfer-requires-clause-seat
end_transfer-requires-clause-seat g c = (ended.can c.self.invariant c.args.seat c.args.lift (may_before c.self.view_is c.requires.well.may).legal (fits_before g.B.Block.seen g.B.Block.tells c.args.lift c.self.view_is c.requires.well.fits)).busy c.index_mut.result.now c.index_mut.ensures.value

pub end_transfer-requires-clause-all : goal.end_transfer-requires-clause-all
end_transfer-requires-clause-all g c = (ended.can c.self.invariant c.args.seat c.args.lift (may_before c.self.view_is c.requires.well.may).legal (fits_before g.B.Block.seen g.B.Block.tells c.args.lift c.self.view_is c.requires.well.fits)).in_flight

pub land-requires-clause-frame : goal.land-requires-clause-frame
land-requires-clause-frame g c κs within = ended.frame_there c.self.invariant c.args.seat c.args.lift (may_before c.self.view_is c.requires.well.may).legal (fits_before g.B.Block.seen g.B.Block.tells c.args.lift c.self.view_is c.requires.well.fits)

pub land-requires-clause-buffer : goal.land-requires-clause-buffer
land-requires-clause-buffer g c κs within = λ reads. ended.buffer_out c.self.invariant c.args.seat c.args.lift (may_before c.self.view_is c.requires.well.may).legal (fits_before g.B.Block.seen g.B.Block.tells c.args.lift c.self.view_is c.requires.well.fits)

pub land-requires-clause-block : goal.land-requires-clause-block
land-requires-clause-block g c κs within = ended.block_out c.self.invariant c.args.seat c.args.lift (may_before c.self.view_is c.requires.well.may).legal (fits_before g.B.Block.seen g.B.Block.tells c.args.lift c.self.view_is c.requires.well.fits)

pub invariant_of-self : goal.invariant_of-self
invariant_of-self g c =
    let may = may_before c.self.view_is c.requires.well.may in
    rw (c.end_transfer.ensures.role, c.end_transfer.ensures.seat, c.end_transfer.ensures.all) (pushed _ _ (entry_by c.args.seat (what.InOk c.frame-f.result c.start-k.result)) c.push.new.self c.push.ensures
    (close.come_closes c.self.invariant c.args.seat c.args.lift (may_before c.self.view_is c.requires.well.may).legal (fits_before g.B.Block.seen g.B.Block.tells c.args.lift c.self.view_is c.requires.well.fits) c.args.q c.args.a (subst (λ (s : History). IsReadAs s.past c.args.lift.start (role.Come c.args.q c.args.a)) (sym c.self.view_is) c.requires.role)
    c.index_mut-row.result.now c.index_mut-row.ensures.value c.come_home-slot.new.row c.come_home-slot.result c.come_home-slot.new.pages c.come_home-slot.new.swaps c.come_home-slot.ensures
    c.end_read.new.frames (rw (← (c.frames_mut.ensures.value ∙ (ap (λ (s : StoreView g.row.B.Denot). s.frames) c.land.ensures.store))) c.end_read.ensures.free) (rw (← (c.frames_mut.ensures.value ∙ (ap (λ (s : StoreView g.row.B.Denot). s.frames) c.land.ensures.store))) c.end_read.ensures.modified)
    c.make_valid.new.tables c.make_valid.ensures.changed.0 c.make_valid.ensures.changed.1 c.make_valid.ensures.procs
    (record c.land.new.self { frames = c.end_read.new.frames }) (ap (λ (s : StoreView g.row.B.Denot). record s { frames = c.end_read.new.frames }) c.land.ensures.store) c.index_mut.result.now c.index_mut.ensures.value refl
    c.frame-f.result c.start-k.result c.frame-f.ensures c.start-k.ensures c.requires.well.ended c.land.ensures.size may.paid
    (rw (← (c.frames_mut.ensures.value ∙ (ap (λ (s : StoreView g.row.B.Denot). s.frames) c.land.ensures.store))) c.end_read.ensures.rows) c.make_valid.ensures.changed.2))
