use Rattle.std.proofs.Common.{refl, sym, subst, arith, ap, ◌∙◌}
use Rattle.frame_store.specs.StoreView.{StoreView}
use Rattle.vm_state.specs.History.{History, entry_by}
use Rattle.vm_journal.specs.declared.entry.Role.TheVariants as role
use Rattle.vm_types.specs.declared.names.Page.{Page}
use Rattle.vm_state.specs.ReadRoles.{IsReadAs}
use Rattle.vm_state.proofs.Closing.{may_before, pushed}
use Rattle.vm_state.proofs.InOkCloses as close
use Rattle.vm_state.proofs.ReadLands.{fits_before}
use Rattle.vm_journal.specs.declared.entry.What.TheVariants as what
use Rattle.vm_state.proofs.state.State.in_ok_near.Goals as goal

pub end_read_free-requires-clause-below : goal.end_read_free-requires-clause-below
end_read_free-requires-clause-below g c = rw ((c.frames_mut.ensures.value ∙ (ap (λ (s : StoreView g.row.B.Denot). s.frames) c.land.ensures.store)), c.frame-f.ensures) ((close.can c.self.invariant c.args.seat c.args.lift (may_before c.self.view_is c.requires.1.well.may).legal (fits_before g.B.Block.seen g.B.Block.tells c.args.lift c.self.view_is c.requires.1.well.fits)).below)

pub end_read_free-requires-clause-reading : goal.end_read_free-requires-clause-reading
end_read_free-requires-clause-reading g c = rw ((c.frames_mut.ensures.value ∙ (ap (λ (s : StoreView g.row.B.Denot). s.frames) c.land.ensures.store)), c.frame-f.ensures) (close.is_reading c.self.invariant c.args.seat c.args.lift (may_before c.self.view_is c.requires.1.well.may).legal (fits_before g.B.Block.seen g.B.Block.tells c.args.lift c.self.view_is c.requires.1.well.fits))

pub end_read_free-requires-clause-flights : goal.end_read_free-requires-clause-flights
end_read_free-requires-clause-flights g c = rw ((c.frames_mut.ensures.value ∙ (ap (λ (s : StoreView g.row.B.Denot). s.frames) c.land.ensures.store)), c.frame-f.ensures) (close.one_flight c.self.invariant c.args.seat c.args.lift (may_before c.self.view_is c.requires.1.well.may).legal (fits_before g.B.Block.seen g.B.Block.tells c.args.lift c.self.view_is c.requires.1.well.fits))

pub index_mut-role-requires : goal.index_mut-role-requires
index_mut-role-requires g c =
    let less = (close.can c.self.invariant c.args.seat c.args.lift (may_before c.self.view_is c.requires.1.well.may).legal (fits_before g.B.Block.seen g.B.Block.tells c.args.lift c.self.view_is c.requires.1.well.fits)).roles in
    omega (arith, less, c.frame-f.ensures, c.self.inside.roles.ok.0)

pub end_transfer-requires-clause-seat : goal.end_transfer-requires-clause-seat
end_transfer-requires-clause-seat g c = (close.can c.self.invariant c.args.seat c.args.lift (may_before c.self.view_is c.requires.1.well.may).legal (fits_before g.B.Block.seen g.B.Block.tells c.args.lift c.self.view_is c.requires.1.well.fits)).busy c.index_mut.result.now c.index_mut.ensures.value

pub end_transfer-requires-clause-all : goal.end_transfer-requires-clause-all
end_transfer-requires-clause-all g c = (close.can c.self.invariant c.args.seat c.args.lift (may_before c.self.view_is c.requires.1.well.may).legal (fits_before g.B.Block.seen g.B.Block.tells c.args.lift c.self.view_is c.requires.1.well.fits)).in_flight

pub land-requires-clause-frame : goal.land-requires-clause-frame
land-requires-clause-frame g c κs within = close.frame_there c.self.invariant c.args.seat c.args.lift (may_before c.self.view_is c.requires.1.well.may).legal (fits_before g.B.Block.seen g.B.Block.tells c.args.lift c.self.view_is c.requires.1.well.fits)

pub land-requires-clause-buffer : goal.land-requires-clause-buffer
land-requires-clause-buffer g c κs within = λ reads. close.buffer_out c.self.invariant c.args.seat c.args.lift (may_before c.self.view_is c.requires.1.well.may).legal (fits_before g.B.Block.seen g.B.Block.tells c.args.lift c.self.view_is c.requires.1.well.fits)

pub land-requires-clause-block : goal.land-requires-clause-block
land-requires-clause-block g c κs within = close.block_out c.self.invariant c.args.seat c.args.lift (may_before c.self.view_is c.requires.1.well.may).legal (fits_before g.B.Block.seen g.B.Block.tells c.args.lift c.self.view_is c.requires.1.well.fits)

pub invariant_of-self : goal.invariant_of-self
invariant_of-self g c =
    let may = may_before c.self.view_is c.requires.1.well.may in
    let near = subst (λ (s : History). (page : Page) × IsReadAs s.past c.args.lift.start (role.Near page)) (sym c.self.view_is) (c.requires.0, c.requires.1.role) in
    rw (c.end_transfer.ensures.role, c.end_transfer.ensures.seat, c.end_transfer.ensures.all) (pushed _ _ (entry_by c.args.seat (what.InOk c.frame-f.result c.start-k.result)) c.push.new.self c.push.ensures
    (close.near_closes c.self.invariant c.args.seat c.args.lift may.legal (fits_before g.B.Block.seen g.B.Block.tells c.args.lift c.self.view_is c.requires.1.well.fits) c.end_read_free.new.frames
    (rw (← (c.frames_mut.ensures.value ∙ (ap (λ (s : StoreView g.row.B.Denot). s.frames) c.land.ensures.store))) c.end_read_free.ensures.modified) (record c.land.new.self { frames = c.end_read_free.new.frames }) (ap (λ (s : StoreView g.row.B.Denot). record s { frames = c.end_read_free.new.frames }) c.land.ensures.store)
    c.index_mut.result.now c.index_mut.ensures.value refl
    c.frame-f.result c.start-k.result c.frame-f.ensures c.start-k.ensures near.0 near.1 c.requires.1.well.ended c.land.ensures.size may.paid
    (rw (← (c.frames_mut.ensures.value ∙ (ap (λ (s : StoreView g.row.B.Denot). s.frames) c.land.ensures.store))) c.end_read_free.ensures.rows) (rw (← (c.frames_mut.ensures.value ∙ (ap (λ (s : StoreView g.row.B.Denot). s.frames) c.land.ensures.store))) c.end_read_free.ensures.free)))
