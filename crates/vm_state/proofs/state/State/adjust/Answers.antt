use Rattle.std.proofs.Common.{refl, arith}
use Rattle.std.proofs.lemmas.List.{length-reverse}
use Rattle.vm_journal.specs.declared.entry.What.TheVariants as what
use Rattle.vm_types.specs.declared.reply.Answer.TheVariants as answer
use Rattle.vm_types.specs.declared.service.Service.TheVariants as service
use Rattle.vm_state.specs.History.{entry_by}
use Rattle.vm_state.proofs.Closing.{may_before, next_number, pushed}
use Rattle.vm_state.proofs.ServedCloses.{adjusted_closes}
use Rattle.vm_state.proofs.SimpleCloses.{spoken_few}
use Rattle.vm_state.proofs.state.State.adjust.Goals as goal

pub speak-requires-clause-few : goal.speak-requires-clause-few
speak-requires-clause-few g c =
    let may = may_before c.self.view_is c.requires in
    let few = spoken_few c.self.invariant c.args.seat.0 c.index_mut-spoken.result.now may.legal.row.0.process c.index_mut-spoken.ensures.value in
    let same = length-reverse c.self.inside.journal.entries in
    omega (arith, few, same)

pub invariant_of-self : goal.invariant_of-self
invariant_of-self g c =
    let may = may_before c.self.view_is c.requires in
    rw c.speak.ensures.row (pushed _ _ (entry_by c.args.seat (what.Served (service.Adjust c.args.limit) answer.Good)) c.speak.new.journal c.speak.ensures.entry
    (adjusted_closes c.self.invariant c.args.seat c.index_mut-spoken.result.now c.index_mut-spoken.ensures.value _ (next_number c.self.inside.journal.entries _ refl)
    c.args.limit c.index_mut-row.result.now c.index_mut-row.ensures.value may.legal may.paid))
