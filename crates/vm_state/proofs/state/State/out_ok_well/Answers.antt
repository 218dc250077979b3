use Rattle.std.proofs.Common.{◌≡◌, refl, sym, ap, ◌∙◌, arith}
use Rattle.frame_store.specs.StoreView.{StoreView}
use Rattle.pfn_database.specs.Frames.{Frames, row_of}
use Rattle.pfn_database.specs.declared.row.Row.{Row}
use Rattle.vm_state.specs.History.{entry_by}
use Rattle.vm_state.proofs.Closing.{may_before, pushed}
use Rattle.vm_state.proofs.OutOkCloses as close
use Rattle.vm_state.proofs.ReadLands.{fits_before}
use Rattle.vm_journal.specs.declared.entry.What.TheVariants as what
use Rattle.vm_state.proofs.state.State.out_ok_well.Goals as goal

pub row-row-requires : goal.row-row-requires
row-row-requires g c = rw ((c.frames.ensures ∙ (ap (λ (s : StoreView g.row.B.Denot). s.frames) c.land.ensures.store)), c.frame-f.ensures) ((close.can c.self.invariant c.args.seat c.args.lift (may_before c.self.view_is c.requires.may).legal (fits_before g.B.Block.seen g.B.Block.tells c.args.lift c.self.view_is c.requires.fits)).below)

pub unwrap-page-requires : goal.unwrap-page-requires
unwrap-page-requires g c = close.held c.self.invariant c.args.seat c.args.lift (may_before c.self.view_is c.requires.may).legal (fits_before g.B.Block.seen g.B.Block.tells c.args.lift c.self.view_is c.requires.fits) c.row-row.result (c.row-row.ensures.row ∙ (λ i. row_of ((c.frames.ensures ∙ (ap (λ (s : StoreView g.row.B.Denot). s.frames) c.land.ensures.store)) i) (c.frame-f.ensures i)))

pub end_write-requires-clause-below : goal.end_write-requires-clause-below
end_write-requires-clause-below g c = rw ((c.frames_mut.ensures.value ∙ (ap (λ (s : StoreView g.row.B.Denot). s.frames) c.land.ensures.store)), c.frame-f.ensures) ((close.can c.self.invariant c.args.seat c.args.lift (may_before c.self.view_is c.requires.may).legal (fits_before g.B.Block.seen g.B.Block.tells c.args.lift c.self.view_is c.requires.fits)).below)

pub end_write-requires-clause-state : goal.end_write-requires-clause-state
end_write-requires-clause-state g c = rw ((c.frames_mut.ensures.value ∙ (ap (λ (s : StoreView g.row.B.Denot). s.frames) c.land.ensures.store)), c.frame-f.ensures) ((close.can c.self.invariant c.args.seat c.args.lift (may_before c.self.view_is c.requires.may).legal (fits_before g.B.Block.seen g.B.Block.tells c.args.lift c.self.view_is c.requires.fits)).state)

pub end_write-requires-clause-flights : goal.end_write-requires-clause-flights
end_write-requires-clause-flights g c = rw ((c.frames_mut.ensures.value ∙ (ap (λ (s : StoreView g.row.B.Denot). s.frames) c.land.ensures.store)), c.frame-f.ensures) ((close.can c.self.invariant c.args.seat c.args.lift (may_before c.self.view_is c.requires.may).legal (fits_before g.B.Block.seen g.B.Block.tells c.args.lift c.self.view_is c.requires.fits)).flights)

pub lie_unless-requires : goal.lie_unless-requires
lie_unless-requires g c = close.may c.self.invariant c.args.seat c.args.lift (may_before c.self.view_is c.requires.may).legal (fits_before g.B.Block.seen g.B.Block.tells c.args.lift c.self.view_is c.requires.fits) c.row-row.result (c.row-row.ensures.row ∙ (λ i. row_of ((c.frames.ensures ∙ (ap (λ (s : StoreView g.row.B.Denot). s.frames) c.land.ensures.store)) i) (c.frame-f.ensures i))) c.unwrap-page.result c.unwrap-page.ensures c.id-block.result c.id-block.ensures

pub index_mut-role-requires : goal.index_mut-role-requires
index_mut-role-requires g c =
    let less = (close.can c.self.invariant c.args.seat c.args.lift (may_before c.self.view_is c.requires.may).legal (fits_before g.B.Block.seen g.B.Block.tells c.args.lift c.self.view_is c.requires.fits)).roles in
    omega (arith, less, c.frame-f.ensures, c.self.inside.roles.ok.0)

pub end_transfer-requires-clause-seat : goal.end_transfer-requires-clause-seat
end_transfer-requires-clause-seat g c = (close.can c.self.invariant c.args.seat c.args.lift (may_before c.self.view_is c.requires.may).legal (fits_before g.B.Block.seen g.B.Block.tells c.args.lift c.self.view_is c.requires.fits)).busy c.index_mut.result.now c.index_mut.ensures.value

pub end_transfer-requires-clause-all : goal.end_transfer-requires-clause-all
end_transfer-requires-clause-all g c = (close.can c.self.invariant c.args.seat c.args.lift (may_before c.self.view_is c.requires.may).legal (fits_before g.B.Block.seen g.B.Block.tells c.args.lift c.self.view_is c.requires.fits)).in_flight

pub land-requires-clause-frame : goal.land-requires-clause-frame
land-requires-clause-frame g c κs within = close.frame_there c.self.invariant c.args.seat c.args.lift (may_before c.self.view_is c.requires.may).legal (fits_before g.B.Block.seen g.B.Block.tells c.args.lift c.self.view_is c.requires.fits)

pub land-requires-clause-block : goal.land-requires-clause-block
land-requires-clause-block g c κs within = close.block_out c.self.invariant c.args.seat c.args.lift (may_before c.self.view_is c.requires.may).legal (fits_before g.B.Block.seen g.B.Block.tells c.args.lift c.self.view_is c.requires.fits)

pub invariant_of-self : goal.invariant_of-self
invariant_of-self g c =
    let may = may_before c.self.view_is c.requires.may in
    let here : c.row-row.result ≡ row_of c.self.inside.store.frames c.frame-f.result.0 = c.row-row.ensures.row ∙ ap (λ (x : Frames). row_of x c.frame-f.result.0) (c.frames.ensures ∙ (ap (λ (s : StoreView g.row.B.Denot). s.frames) c.land.ensures.store)) in
    rw (c.end_transfer.ensures.role, c.end_transfer.ensures.seat, c.end_transfer.ensures.all) (pushed _ _ (entry_by c.args.seat (what.OutOk c.frame-f.result c.start-k.result)) c.push.new.self c.push.ensures
    (close.out_ok_closes c.self.invariant c.args.seat c.args.lift (may_before c.self.view_is c.requires.may).legal (fits_before g.B.Block.seen g.B.Block.tells c.args.lift c.self.view_is c.requires.fits) c.end_write.new.frames
    (record c.land.new.self { frames = c.end_write.new.frames }) (ap (λ (s : StoreView g.row.B.Denot). record s { frames = c.end_write.new.frames }) c.land.ensures.store) c.index_mut.result.now refl c.lie_unless.new.pages c.lie_unless.new.swaps c.unwrap-page.result
    c.frame-f.result c.start-k.result c.frame-f.ensures c.start-k.ensures c.requires.ended may.paid
    (record {
      rows = rw (← (c.frames_mut.ensures.value ∙ (ap (λ (s : StoreView g.row.B.Denot). s.frames) c.land.ensures.store))) c.end_write.ensures.rows;
      free = rw (← (c.frames_mut.ensures.value ∙ (ap (λ (s : StoreView g.row.B.Denot). s.frames) c.land.ensures.store))) c.end_write.ensures.free;
      modified = rw (← (c.frames_mut.ensures.value ∙ (ap (λ (s : StoreView g.row.B.Denot). s.frames) c.land.ensures.store))) c.end_write.ensures.modified;
      busy = c.index_mut.ensures.value;
      page = ap (λ (r : Row). r.page) (sym here) ∙ c.unwrap-page.ensures;
      pages = close.pages_after c.self.inside.pages c.lie_unless.new.pages c.unwrap-page.result c.row-row.result (row_of c.self.inside.store.frames c.frame-f.result.0) here c.id-block.result c.args.lift.block c.id-block.ensures c.lie_unless.ensures.rows;
      swap_procs = c.lie_unless.ensures.swap_procs;
      swaps = close.swaps_after c.self.inside.pages c.self.inside.swaps c.lie_unless.new.swaps c.unwrap-page.result c.row-row.result (row_of c.self.inside.store.frames c.frame-f.result.0) here c.id-block.result c.args.lift.block c.id-block.ensures c.lie_unless.ensures.swaps;
    })))
