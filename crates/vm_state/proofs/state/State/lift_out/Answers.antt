use Rattle.std.proofs.Common.{List, refl, sym, ap, ◌∙◌, subst, arith}
use Rattle.pfn_database.specs.Frames.{Frames, row_of}
use Rattle.pfn_database.specs.declared.row.Row.{Row}
use Rattle.vm_journal.specs.declared.entry.Entry.{Entry}
use Rattle.vm_journal.specs.declared.entry.What.TheVariants as what
use Rattle.vm_state.specs.History.{entry_by}
use Rattle.lift_carriers.specs.LiftsFit.{LiftFits}
use Rattle.vm_state.proofs.Closing.{may_before, newest_first, next_number, pushed}
use Rattle.vm_state.proofs.ReadLands.{fits_before}
use Rattle.vm_state.proofs.OutCloses as close
use Rattle.vm_state.proofs.WriteBegins as begin
use Rattle.vm_state.proofs.state.State.lift_out.Goals as goal

pub row-kept-requires : goal.row-kept-requires
row-kept-requires g c = rw c.frames.ensures ((begin.can c.self.invariant c.args.seat c.args.f c.args.block (may_before c.self.view_is c.requires).legal).below)

pub unwrap-page-requires : goal.unwrap-page-requires
unwrap-page-requires g c = rw (c.row-kept.ensures.row, c.frames.ensures) (begin.held c.self.invariant c.args.seat c.args.f c.args.block (may_before c.self.view_is c.requires).legal)

pub begin_write-requires-clause-below : goal.begin_write-requires-clause-below
begin_write-requires-clause-below g c = rw c.frames_mut.ensures.value ((begin.can c.self.invariant c.args.seat c.args.f c.args.block (may_before c.self.view_is c.requires).legal).below)

pub begin_write-requires-clause-state : goal.begin_write-requires-clause-state
begin_write-requires-clause-state g c = rw c.frames_mut.ensures.value ((begin.can c.self.invariant c.args.seat c.args.f c.args.block (may_before c.self.view_is c.requires).legal).state)

pub begin_write-requires-clause-flights : goal.begin_write-requires-clause-flights
begin_write-requires-clause-flights g c = rw c.frames_mut.ensures.value ((begin.can c.self.invariant c.args.seat c.args.f c.args.block (may_before c.self.view_is c.requires).legal).flights)

pub give_block-requires : goal.give_block-requires
give_block-requires g c =
    let page_is = ap (λ (r : Row). r.page) c.row-kept.ensures.row ∙ ap (λ (x : Frames). (row_of x c.args.f.0).page) c.frames.ensures in
    close.may c.self.invariant c.args.seat c.args.f c.args.block (may_before c.self.view_is c.requires).legal c.unwrap-page.result (sym page_is ∙ c.unwrap-page.ensures)

pub index_mut-requires : goal.index_mut-requires
index_mut-requires g c =
    let less = (begin.can c.self.invariant c.args.seat c.args.f c.args.block (may_before c.self.view_is c.requires).legal).roles in
    omega (arith, less, c.self.inside.roles.ok.0)

pub overflow_add-busy : goal.overflow_add-busy
overflow_add-busy g c = let few = (begin.can c.self.invariant c.args.seat c.args.f c.args.block (may_before c.self.view_is c.requires).legal).busy c.index_mut-busy.result.now c.index_mut-busy.ensures.value in omega (arith, few)

pub lift_out-lift-requires-clause-left : goal.lift_out-lift-requires-clause-left
lift_out-lift-requires-clause-left g c κs within = begin.buffer_left c.self.invariant c.args.seat c.args.f c.args.block (may_before c.self.view_is c.requires).legal

pub lift_out-lift-requires-clause-buffer : goal.lift_out-lift-requires-clause-buffer
lift_out-lift-requires-clause-buffer g c κs within = begin.buffer_there c.self.invariant c.args.seat c.args.f c.args.block (may_before c.self.view_is c.requires).legal

pub lift_out-lift-requires-clause-still : goal.lift_out-lift-requires-clause-still
lift_out-lift-requires-clause-still g c κs within = begin.none_open c.self.invariant c.args.seat c.args.f c.args.block (may_before c.self.view_is c.requires).legal refl

pub lift_out-lift-requires-clause-block : goal.lift_out-lift-requires-clause-block
lift_out-lift-requires-clause-block g c κs within = begin.block_there c.self.invariant c.args.seat c.args.f c.args.block (may_before c.self.view_is c.requires).legal

pub lift_out-lift-requires-clause-few_calls : goal.lift_out-lift-requires-clause-few_calls
lift_out-lift-requires-clause-few_calls g c κs within = begin.few c.self.invariant c.args.seat c.args.f c.args.block (may_before c.self.view_is c.requires).legal (let paid = (may_before c.self.view_is c.requires).paid in omega (arith, paid))

pub invariant_of-self : goal.invariant_of-self
invariant_of-self g c =
    let may = may_before c.self.view_is c.requires in
    let page_is = ap (λ (r : Row). r.page) c.row-kept.ensures.row ∙ ap (λ (x : Frames). (row_of x c.args.f.0).page) c.frames.ensures in
    pushed _ _ (entry_by c.args.seat (what.Out c.args.f c.args.block)) c.push.new.self c.push.ensures
    (close.out_closes c.self.invariant c.args.seat c.args.f c.args.block (may_before c.self.view_is c.requires).legal c.begin_write.new.frames c.lift_out-lift.new.self c.index_mut-busy.result.now refl c.give_block.new.pages c.unwrap-page.result
    _ (next_number _ c.len-start.result c.len-start.ensures.len) c.give_block.new.file c.give_block.ensures.file may.paid
    (record {
      rows = rw (← c.frames_mut.ensures.value) c.begin_write.ensures.rows;
      free = rw (← c.frames_mut.ensures.value) c.begin_write.ensures.free;
      modified = rw (← c.frames_mut.ensures.value) c.begin_write.ensures.modified;
      busy = c.index_mut-busy.ensures.value;
      page = sym page_is ∙ c.unwrap-page.ensures;
      pages = c.give_block.ensures.rows;
    })
    c.lift_out-lift.ensures.store)

pub overflow_add-self : goal.overflow_add-self
overflow_add-self g c = let few = (begin.can c.self.invariant c.args.seat c.args.f c.args.block (may_before c.self.view_is c.requires).legal).in_flight in omega (arith, few)

pub returns-clause-lift : goal.returns-clause-lift
returns-clause-lift g c =
    let page_is = ap (λ (r : Row). r.page) c.row-kept.ensures.row ∙ ap (λ (x : Frames). (row_of x c.args.f.0).page) c.frames.ensures in
    let its = begin.lift_fits c.self.invariant c.args.seat c.args.f c.args.block (may_before c.self.view_is c.requires).legal c.lift_out-lift.result.buffer c.lift_out-lift.ensures.buffer c.lift_out-lift.result.held c.lift_out-lift.ensures.held
    c.self.inside.store.pool c.unwrap-page.result (begin.page_is c.self.invariant c.args.seat c.args.f c.args.block (may_before c.self.view_is c.requires).legal c.row-kept.result.page page_is c.unwrap-page.result c.unwrap-page.ensures)
    _ (next_number _ c.len-start.result c.len-start.ensures.len) c.lift_out-lift.result c.lift_out-lift.ensures.lift in
    close.begun_before g.B.Block.seen g.B.Block.tells c.args.seat c.args.f c.args.block c.lift_out-lift.result c.self.view_is
    (record { begins = its.0; fits = its.1 })

pub returns-clause-others : goal.returns-clause-others
returns-clause-others g c = λ lift fit.
    subst (λ (past : List Entry). LiftFits g.B.Block.seen g.B.Block.tells c.self.inside.config past lift) (sym (newest_first _ c.push.new.self _ (entry_by c.args.seat (what.Out c.args.f c.args.block)) c.push.ensures))
    (begin.other_fits c.self.invariant c.args.seat c.args.f c.args.block (may_before c.self.view_is c.requires).legal lift (fits_before g.B.Block.seen g.B.Block.tells lift c.self.view_is fit))
