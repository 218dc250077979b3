use Rattle.std.proofs.Common.{Some, refl, ap, arith, ◌∙◌}
use Rattle.frame_store.specs.StoreView.{StoreView}
use Rattle.vm_state.specs.History.{entry_by}
use Rattle.vm_state.proofs.Closing.{may_before, pushed}
use Rattle.vm_state.proofs.InFailCloses as close
use Rattle.vm_state.proofs.ReadLands.{fits_before}
use Rattle.vm_journal.specs.declared.entry.What.TheVariants as what
use Rattle.vm_state.proofs.state.State.in_fail_counted.Goals as goal

pub fail_read-requires-clause-below : goal.fail_read-requires-clause-below
fail_read-requires-clause-below g c = rw ((c.frames_mut.ensures.value ∙ (ap (λ (s : StoreView g.row.B.Denot). s.frames) c.land.ensures.store)), c.frame-f.ensures) ((close.can c.self.invariant c.args.seat c.args.lift c.args.before c.args.after (may_before c.self.view_is c.requires.may).legal (fits_before g.B.Block.seen g.B.Block.tells c.args.lift c.self.view_is c.requires.fits)).below)

pub fail_read-requires-clause-reading : goal.fail_read-requires-clause-reading
fail_read-requires-clause-reading g c = rw ((c.frames_mut.ensures.value ∙ (ap (λ (s : StoreView g.row.B.Denot). s.frames) c.land.ensures.store)), c.frame-f.ensures) (close.is_reading c.self.invariant c.args.seat c.args.lift c.args.before c.args.after (may_before c.self.view_is c.requires.may).legal (fits_before g.B.Block.seen g.B.Block.tells c.args.lift c.self.view_is c.requires.fits))

pub fail_read-requires-clause-flights : goal.fail_read-requires-clause-flights
fail_read-requires-clause-flights g c = rw ((c.frames_mut.ensures.value ∙ (ap (λ (s : StoreView g.row.B.Denot). s.frames) c.land.ensures.store)), c.frame-f.ensures) (close.one_flight c.self.invariant c.args.seat c.args.lift c.args.before c.args.after (may_before c.self.view_is c.requires.may).legal (fits_before g.B.Block.seen g.B.Block.tells c.args.lift c.self.view_is c.requires.fits))

pub index_mut-role-requires : goal.index_mut-role-requires
index_mut-role-requires g c =
    let less = (close.can c.self.invariant c.args.seat c.args.lift c.args.before c.args.after (may_before c.self.view_is c.requires.may).legal (fits_before g.B.Block.seen g.B.Block.tells c.args.lift c.self.view_is c.requires.fits)).roles in
    omega (arith, less, c.frame-f.ensures, c.self.inside.roles.ok.0)

pub end_transfer-requires-clause-seat : goal.end_transfer-requires-clause-seat
end_transfer-requires-clause-seat g c = (close.can c.self.invariant c.args.seat c.args.lift c.args.before c.args.after (may_before c.self.view_is c.requires.may).legal (fits_before g.B.Block.seen g.B.Block.tells c.args.lift c.self.view_is c.requires.fits)).busy c.index_mut.result.now c.index_mut.ensures.value

pub end_transfer-requires-clause-all : goal.end_transfer-requires-clause-all
end_transfer-requires-clause-all g c = (close.can c.self.invariant c.args.seat c.args.lift c.args.before c.args.after (may_before c.self.view_is c.requires.may).legal (fits_before g.B.Block.seen g.B.Block.tells c.args.lift c.self.view_is c.requires.fits)).in_flight

pub land-requires-clause-frame : goal.land-requires-clause-frame
land-requires-clause-frame g c κs within = close.frame_there c.self.invariant c.args.seat c.args.lift c.args.before c.args.after (may_before c.self.view_is c.requires.may).legal (fits_before g.B.Block.seen g.B.Block.tells c.args.lift c.self.view_is c.requires.fits)

pub land-requires-clause-buffer : goal.land-requires-clause-buffer
land-requires-clause-buffer g c κs within = λ reads. close.buffer_out c.self.invariant c.args.seat c.args.lift c.args.before c.args.after (may_before c.self.view_is c.requires.may).legal (fits_before g.B.Block.seen g.B.Block.tells c.args.lift c.self.view_is c.requires.fits)

pub land-requires-clause-block : goal.land-requires-clause-block
land-requires-clause-block g c κs within = close.block_out c.self.invariant c.args.seat c.args.lift c.args.before c.args.after (may_before c.self.view_is c.requires.may).legal (fits_before g.B.Block.seen g.B.Block.tells c.args.lift c.self.view_is c.requires.fits)

pub invariant_of-self : goal.invariant_of-self
invariant_of-self g c =
    let may = may_before c.self.view_is c.requires.may in
    rw (c.end_transfer.ensures.role, c.end_transfer.ensures.seat, c.end_transfer.ensures.all) (pushed _ _ (entry_by c.args.seat (what.InFail c.frame-f.result c.start-k.result c.args.before c.args.after)) c.push.new.self c.push.ensures
    (close.in_fail_closes c.self.invariant c.args.seat c.args.lift c.args.before c.args.after (may_before c.self.view_is c.requires.may).legal (fits_before g.B.Block.seen g.B.Block.tells c.args.lift c.self.view_is c.requires.fits) c.fail_read.new.frames
    (rw (← (c.frames_mut.ensures.value ∙ (ap (λ (s : StoreView g.row.B.Denot). s.frames) c.land.ensures.store))) c.fail_read.ensures.free) (rw (← (c.frames_mut.ensures.value ∙ (ap (λ (s : StoreView g.row.B.Denot). s.frames) c.land.ensures.store))) c.fail_read.ensures.modified) (record c.land.new.self { frames = c.fail_read.new.frames }) (ap (λ (s : StoreView g.row.B.Denot). record s { frames = c.fail_read.new.frames }) c.land.ensures.store)
    c.index_mut.result.now c.index_mut.ensures.value refl
    c.frame-f.result c.start-k.result (Some c.id.result) c.frame-f.ensures c.start-k.ensures (ap Some c.id.ensures) c.requires.ended c.land.ensures.size may.paid
    (rw (← (c.frames_mut.ensures.value ∙ (ap (λ (s : StoreView g.row.B.Denot). s.frames) c.land.ensures.store))) c.fail_read.ensures.rows)))
