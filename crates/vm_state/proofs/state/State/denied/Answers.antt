use Rattle.std.proofs.Common.{refl, arith}
use Rattle.std.proofs.lemmas.List.{length-reverse}
use Rattle.vm_state.specs.History.{entry_by}
use Rattle.vm_state.proofs.Closing.{may_before, next_number, pushed}
use Rattle.vm_state.proofs.SimpleCloses.{denied_process, denied_closes, references_few, spoken_few}
use Rattle.vm_journal.specs.declared.entry.What.TheVariants as what
use Rattle.vm_state.proofs.state.State.denied.Goals as goal

pub overflow_add-row : goal.overflow_add-row
overflow_add-row g c =
    let may = may_before c.self.view_is c.requires in
    let few = references_few c.self.invariant c.args.seat.0 c.index_mut-row.result.now (denied_process c.args.r c.args.why may.legal.row) c.index_mut-row.ensures.value in
    let short = c.self.invariant.short in
    omega (arith, few, short)

pub speak-requires-clause-few : goal.speak-requires-clause-few
speak-requires-clause-few g c =
    let may = may_before c.self.view_is c.requires in
    let few = spoken_few c.self.invariant c.args.seat.0 c.index_mut-spoken.result.now (denied_process c.args.r c.args.why may.legal.row) c.index_mut-spoken.ensures.value in
    let same = length-reverse c.self.inside.journal.entries in
    omega (arith, few, same)

pub invariant_of-self : goal.invariant_of-self
invariant_of-self g c =
    let may = may_before c.self.view_is c.requires in
    rw c.speak.ensures.row (pushed _ _ (entry_by c.args.seat (what.Denied c.args.r c.args.why)) c.speak.new.journal c.speak.ensures.entry
    (denied_closes c.self.invariant c.args.seat c.args.r c.args.why may.legal may.paid c.index_mut-row.result.now c.index_mut-row.ensures.value
    c.index_mut-spoken.result.now c.index_mut-spoken.ensures.value _ (next_number c.self.inside.journal.entries _ refl)))
