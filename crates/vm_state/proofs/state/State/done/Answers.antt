use Rattle.std.proofs.Common.{refl, IsSome, subst, sym, ◌∙◌, ap, arith}
use Rattle.std.proofs.lemmas.List.{length-reverse}
use Rattle.pfn_database.specs.Frames.{Frames, row_of}
use Rattle.pfn_database.specs.declared.row.Row.{Row}
use Rattle.vm_state.specs.History.{entry_by}
use Rattle.vm_state.proofs.Closing.{next_number, pushed}
use Rattle.vm_state.proofs.DoneCloses as close
use Rattle.vm_state.proofs.SimpleCloses.{references_few, spoken_few}
use Rattle.vm_journal.specs.declared.entry.What.TheVariants as what
use Rattle.vm_state.proofs.state.State.done.Goals as goal

pub index_mut-row-requires : goal.index_mut-row-requires
index_mut-row-requires g c =
    let process = close.process c.self.invariant c.args.seat c.args.r (close.some_legal (close.answer_before c.self.view_is c.requires)) in
    let count = c.self.invariant.parts.processes.count in
    omega (arith, process, count)

pub overflow_add-row : goal.overflow_add-row
overflow_add-row g c =
    let few = references_few c.self.invariant c.args.seat.0 c.index_mut-row.result.now (close.process c.self.invariant c.args.seat c.args.r (close.some_legal (close.answer_before c.self.view_is c.requires))) c.index_mut-row.ensures.value in
    let short = c.self.invariant.short in
    omega (arith, few, short)

pub unwrap-f-requires : goal.unwrap-f-requires
unwrap-f-requires g c = (close.found_is c.self.invariant c.args.seat c.args.r (close.some_legal (close.answer_before c.self.view_is c.requires)) c.look-look.result c.frame_in.result c.look-look.ensures.value c.frame_in.ensures).0

pub row-kept-requires : goal.row-kept-requires
row-kept-requires g c =
    let may = (close.some_legal (close.answer_before c.self.view_is c.requires)) in
    let same = (close.found_is c.self.invariant c.args.seat c.args.r may c.look-look.result c.frame_in.result c.look-look.ensures.value c.frame_in.ensures).1 c.unwrap-f.result c.unwrap-f.ensures in
    rw c.frames.ensures (close.below c.self.invariant c.args.seat c.args.r may c.unwrap-f.result same)

pub mark-requires-clause-below : goal.mark-requires-clause-below
mark-requires-clause-below g c =
    let may = (close.some_legal (close.answer_before c.self.view_is c.requires)) in
    let same = (close.found_is c.self.invariant c.args.seat c.args.r may c.look-look.result c.frame_in.result c.look-look.ensures.value c.frame_in.ensures).1 c.unwrap-f.result c.unwrap-f.ensures in
    rw c.frames_mut.ensures.value (close.below c.self.invariant c.args.seat c.args.r may c.unwrap-f.result same)

pub mark-requires-clause-state : goal.mark-requires-clause-state
mark-requires-clause-state g c =
    let may = (close.some_legal (close.answer_before c.self.view_is c.requires)) in
    let same = (close.found_is c.self.invariant c.args.seat c.args.r may c.look-look.result c.frame_in.result c.look-look.ensures.value c.frame_in.ensures).1 c.unwrap-f.result c.unwrap-f.ensures in
    rw c.frames_mut.ensures.value (close.may_mark c.self.invariant c.args.seat c.args.r may c.unwrap-f.result same c.marked.result)

pub unwrap-requires : goal.unwrap-requires
unwrap-requires g c =
    let may = (close.some_legal (close.answer_before c.self.view_is c.requires)) in
    let same = (close.found_is c.self.invariant c.args.seat c.args.r may c.look-look.result c.frame_in.result c.look-look.ensures.value c.frame_in.ensures).1 c.unwrap-f.result c.unwrap-f.ensures in
    rw (c.row-kept.ensures.row, c.frames.ensures) (subst IsSome (sym (close.page_held c.self.invariant c.args.seat c.args.r may c.unwrap-f.result same)) refl)

pub bytes_mut-requires-after_bounds : goal.bytes_mut-requires-after_bounds
bytes_mut-requires-after_bounds g c = λ κs outlives.
    let may = (close.some_legal (close.answer_before c.self.view_is c.requires)) in
    let same = (close.found_is c.self.invariant c.args.seat c.args.r may c.look-look.result c.frame_in.result c.look-look.ensures.value c.frame_in.ensures).1 c.unwrap-f.result c.unwrap-f.ensures in
    close.buffer_there c.self.invariant c.args.seat c.args.r may c.unwrap-f.result same

pub apply-reply-requires-clause-well_formed : goal.apply-reply-requires-clause-well_formed
apply-reply-requires-clause-well_formed g c = close.formed_reference c.self.invariant c.args.seat c.args.r (close.some_legal (close.answer_before c.self.view_is c.requires))

pub speak-requires-clause-few : goal.speak-requires-clause-few
speak-requires-clause-few g c =
    let few = spoken_few c.self.invariant c.args.seat.0 c.index_mut-spoken.result.now (close.process c.self.invariant c.args.seat c.args.r (close.some_legal (close.answer_before c.self.view_is c.requires))) c.index_mut-spoken.ensures.value in
    let same = length-reverse c.self.inside.journal.entries in
    omega (arith, few, same)

pub invariant_of-self : goal.invariant_of-self
invariant_of-self g c =
    let may = close.answer_before c.self.view_is c.requires in
    let legal = may.legal c.apply-reply.result c.apply-reply.ensures.fits in
    let same = (close.found_is c.self.invariant c.args.seat c.args.r legal c.look-look.result c.frame_in.result c.look-look.ensures.value c.frame_in.ensures).1 c.unwrap-f.result c.unwrap-f.ensures in
    rw c.speak.ensures.row (pushed _ _ (entry_by c.args.seat (what.Done c.args.r c.apply-reply.result)) c.speak.new.journal c.speak.ensures.entry
    (close.done_closes c.self.invariant c.args.seat c.args.r legal c.unwrap-f.result same may.paid c.index_mut-row.result.now c.index_mut-row.ensures.value c.index_mut-spoken.result.now c.index_mut-spoken.ensures.value
    _ (next_number c.self.inside.journal.entries _ refl) c.row-kept.result (rw (← c.frames.ensures) c.row-kept.ensures.row) c.marked.result c.marked.ensures
    c.mark.new.self (rw (← c.frames_mut.ensures.value) c.mark.ensures.rows) (rw (← c.frames_mut.ensures.value) c.mark.ensures.free) (rw (← c.frames_mut.ensures.value) c.mark.ensures.modified)
    c.unwrap.result c.unwrap.ensures c.touch.new.pages c.touch.ensures
    c.bytes_mut.result.now c.apply-reply.new.page c.bytes_mut.ensures.bytes c.apply-reply.ensures.bytes
    (λ told. close.done_right c.self.invariant c.args.seat c.args.r legal c.unwrap-f.result same c.bytes_mut.result.now c.bytes_mut.ensures.bytes c.apply-reply.ensures.reply told)))

pub returns-clause-right : goal.returns-clause-right
returns-clause-right g c = λ told.
    let may = close.answer_before c.self.view_is c.requires in
    let legal = may.legal c.apply-reply.result c.apply-reply.ensures.fits in
    let same = (close.found_is c.self.invariant c.args.seat c.args.r legal c.look-look.result c.frame_in.result c.look-look.ensures.value c.frame_in.ensures).1 c.unwrap-f.result c.unwrap-f.ensures in
    close.right_before c.args.seat.0 c.args.r c.apply-reply.result c.self.view_is
    (close.done_right c.self.invariant c.args.seat c.args.r legal c.unwrap-f.result same c.bytes_mut.result.now c.bytes_mut.ensures.bytes c.apply-reply.ensures.reply told)
