use Rattle.std.proofs.Common.{ℕ, List, true, IsSome, refl, sym, ap, ◌∙◌, subst, arith}
use Rattle.std.proofs.lemmas.List.{with_items_is}
use Rattle.vm_journal.specs.declared.entry.Entry.{Entry}
use Rattle.vm_journal.specs.declared.entry.What.TheVariants as what
use Rattle.state_pages.specs.Moves.{number_by}
use Rattle.state_parts.specs.declared.process_row.ProcessRow.{ProcessRow}
use Rattle.state_pages.specs.ReadStarts.{CountsFault}
use Rattle.vm_state.specs.History.{History, entry_by}
use Rattle.vm_state.specs.LiftsBegin.{HasBegun}
use Rattle.lift_carriers.specs.LiftsFit.{LiftFits}
use Rattle.vm_state.proofs.Closing.{may_before, newest_first, next_number, pushed}
use Rattle.vm_state.proofs.ReadLands.{fits_before}
use Rattle.vm_state.proofs.ReadsBegin as close
use Rattle.vm_state.proofs.state.State.lift_in.Goals as goal

pub unwrap-page-requires : goal.unwrap-page-requires
unwrap-page-requires g c = subst IsSome (sym c.read_page.ensures) (close.has_page c.self.invariant c.args.seat c.args.f c.args.block c.args.role (may_before c.self.view_is c.requires).legal)

pub global_number-number-requires : goal.global_number-number-requires
global_number-number-requires g c = rw c.deref.ensures.value (close.number_there c.self.invariant c.args.seat c.args.f c.args.block c.args.role (may_before c.self.view_is c.requires).legal c.unwrap-page.result (sym c.read_page.ensures ∙ c.unwrap-page.ensures))

pub begin_read-requires-clause-below : goal.begin_read-requires-clause-below
begin_read-requires-clause-below g c = rw c.frames_mut.ensures.value (close.can c.self.invariant c.args.seat c.args.f c.args.block c.args.role (may_before c.self.view_is c.requires).legal c.unwrap-page.result (sym c.read_page.ensures ∙ c.unwrap-page.ensures)).below

pub begin_read-requires-clause-head : goal.begin_read-requires-clause-head
begin_read-requires-clause-head g c = rw c.frames_mut.ensures.value (close.can c.self.invariant c.args.seat c.args.f c.args.block c.args.role (may_before c.self.view_is c.requires).legal c.unwrap-page.result (sym c.read_page.ensures ∙ c.unwrap-page.ensures)).head

pub begin_read-requires-clause-empty : goal.begin_read-requires-clause-empty
begin_read-requires-clause-empty g c = rw c.frames_mut.ensures.value (close.can c.self.invariant c.args.seat c.args.f c.args.block c.args.role (may_before c.self.view_is c.requires).legal c.unwrap-page.result (sym c.read_page.ensures ∙ c.unwrap-page.ensures)).empty

pub index_mut-requires : goal.index_mut-requires
index_mut-requires g c = let less = (close.can c.self.invariant c.args.seat c.args.f c.args.block c.args.role (may_before c.self.view_is c.requires).legal c.unwrap-page.result (sym c.read_page.ensures ∙ c.unwrap-page.ensures)).roles in omega (arith, less, c.self.inside.roles.ok.0)

pub count_fault-requires : goal.count_fault-requires
count_fault-requires g c = rw c.deref_mut.ensures.value (close.may_count c.self.invariant c.args.seat c.args.f c.args.block c.args.role (may_before c.self.view_is c.requires).legal)

pub hold_page-requires : goal.hold_page-requires
hold_page-requires g c = close.may_hold c.self.invariant c.args.seat c.args.f c.args.block c.args.role (may_before c.self.view_is c.requires).legal c.unwrap-page.result (sym c.read_page.ensures ∙ c.unwrap-page.ensures) c.global_number-number.result (c.global_number-number.ensures ∙ ap (λ (firsts : List ℕ). number_by firsts c.unwrap-page.result) c.deref.ensures.value)

pub charge_fault-requires : goal.charge_fault-requires
charge_fault-requires g c = close.may_charge c.self.invariant c.args.seat c.args.f c.args.block c.args.role (may_before c.self.view_is c.requires).legal c.unwrap-page.result (sym c.read_page.ensures ∙ c.unwrap-page.ensures)

pub overflow_add-busy : goal.overflow_add-busy
overflow_add-busy g c = let few = (close.can c.self.invariant c.args.seat c.args.f c.args.block c.args.role (may_before c.self.view_is c.requires).legal c.unwrap-page.result (sym c.read_page.ensures ∙ c.unwrap-page.ensures)).busy c.index_mut-busy.result.now c.index_mut-busy.ensures.value in omega (arith, few)

pub overflow_add-self : goal.overflow_add-self
overflow_add-self g c = let few = (close.can c.self.invariant c.args.seat c.args.f c.args.block c.args.role (may_before c.self.view_is c.requires).legal c.unwrap-page.result (sym c.read_page.ensures ∙ c.unwrap-page.ensures)).in_flight in omega (arith, few)

pub lift_in-lift-requires-clause-buffer : goal.lift_in-lift-requires-clause-buffer
lift_in-lift-requires-clause-buffer g c κs within = close.buffer_here c.self.invariant c.args.seat c.args.f c.args.block c.args.role (may_before c.self.view_is c.requires).legal

pub lift_in-lift-requires-clause-still : goal.lift_in-lift-requires-clause-still
lift_in-lift-requires-clause-still g c κs within = close.still c.self.invariant c.args.seat c.args.f c.args.block c.args.role (may_before c.self.view_is c.requires).legal c.unwrap-page.result (sym c.read_page.ensures ∙ c.unwrap-page.ensures) refl

pub lift_in-lift-requires-clause-block : goal.lift_in-lift-requires-clause-block
lift_in-lift-requires-clause-block g c κs within = close.block_here c.self.invariant c.args.seat c.args.f c.args.block c.args.role (may_before c.self.view_is c.requires).legal

pub lift_in-lift-requires-clause-few_calls : goal.lift_in-lift-requires-clause-few_calls
lift_in-lift-requires-clause-few_calls g c κs within = close.each_some _ (close.few c.self.invariant c.args.seat c.args.f c.args.block c.args.role (may_before c.self.view_is c.requires).legal c.unwrap-page.result (sym c.read_page.ensures ∙ c.unwrap-page.ensures) (may_before c.self.view_is c.requires).paid)

pub invariant_of-self : goal.invariant_of-self
invariant_of-self g c =
    let may = may_before c.self.view_is c.requires in
    pushed _ _ (entry_by c.args.seat (what.In c.args.f c.args.block c.args.role)) c.push.new.self c.push.ensures
    (close.begin_closes c.self.invariant c.args.seat c.args.f c.args.block c.args.role (may_before c.self.view_is c.requires).legal c.unwrap-page.result (sym c.read_page.ensures ∙ c.unwrap-page.ensures)
    c.begin_read.new.frames c.hold_page.new.tables c.hold_page.new.globals _ c.charge_fault.new.pages c.charge_fault.new.file c.index_mut-busy.result.now c.index_mut-busy.ensures.value refl may.paid
    (record {
      rows = rw (← c.frames_mut.ensures.value) c.begin_read.ensures.rows;
      free = rw (← c.frames_mut.ensures.value) c.begin_read.ensures.free;
      modified = rw (← c.frames_mut.ensures.value) c.begin_read.ensures.modified;
      procs = c.hold_page.ensures.procs;
      each = c.hold_page.ensures.entries;
      global = close.global_held c.self.invariant c.args.seat c.args.f c.args.block c.args.role (may_before c.self.view_is c.requires).legal c.unwrap-page.result (sym c.read_page.ensures ∙ c.unwrap-page.ensures) c.global_number-number.result (c.global_number-number.ensures ∙ ap (λ (firsts : List ℕ). number_by firsts c.unwrap-page.result) c.deref.ensures.value) c.hold_page.new.globals c.hold_page.ensures.globals;
    })
    (subst (λ (rows : List ProcessRow). CountsFault c.args.role c.self.inside.processes.items rows) (sym (with_items_is c.self.inside.processes c.count_fault.new.processes (close.rows_stay c.args.role c.self.inside.processes.items c.count_fault.new.processes (subst (λ (rows : List ProcessRow). CountsFault c.args.role rows c.count_fault.new.processes) c.deref_mut.ensures.value c.count_fault.ensures) ∙ sym c.self.inside.processes.ok.0))) (subst (λ (rows : List ProcessRow). CountsFault c.args.role rows c.count_fault.new.processes) c.deref_mut.ensures.value c.count_fault.ensures))
    c.charge_fault.ensures _ (next_number _ c.len-start.result c.len-start.ensures.len) c.lift_in-lift.new.self c.lift_in-lift.ensures.store)

pub returns-clause-lift : goal.returns-clause-lift
returns-clause-lift g c =
    subst (λ (s : History). HasBegun g.B.Block.seen g.B.Block.tells s c.args.seat (what.In c.args.f c.args.block c.args.role) c.args.f.0 c.args.block true c.lift_in-lift.result) c.self.view_is
    (record {
      begins = close.lift_begun c.self.invariant c.args.seat c.args.f c.args.block c.args.role (may_before c.self.view_is c.requires).legal c.unwrap-page.result (sym c.read_page.ensures ∙ c.unwrap-page.ensures) c.lift_in-lift.result _ _ c.lift_in-lift.ensures.lift (next_number _ c.len-start.result c.len-start.ensures.len);
      fits = close.lift_fits c.self.invariant c.args.seat c.args.f c.args.block c.args.role (may_before c.self.view_is c.requires).legal c.unwrap-page.result (sym c.read_page.ensures ∙ c.unwrap-page.ensures) c.lift_in-lift.result _ _ c.lift_in-lift.ensures.lift (next_number _ c.len-start.result c.len-start.ensures.len) c.lift_in-lift.ensures.held;
    })

pub returns-clause-others : goal.returns-clause-others
returns-clause-others g c = λ lift fit.
    subst (λ (past : List Entry). LiftFits g.B.Block.seen g.B.Block.tells c.self.inside.config past lift) (sym (newest_first _ c.push.new.self _ (entry_by c.args.seat (what.In c.args.f c.args.block c.args.role)) c.push.ensures))
    (close.other_fits c.self.invariant c.args.seat c.args.f c.args.block c.args.role (may_before c.self.view_is c.requires).legal lift (fits_before g.B.Block.seen g.B.Block.tells lift c.self.view_is fit))
