use Rattle.std.proofs.Common.{refl, arith}
use Rattle.std.proofs.lemmas.List.{length-reverse}
use Rattle.vm_journal.specs.declared.entry.What.TheVariants as what
use Rattle.vm_types.specs.declared.reply.Answer.TheVariants as answer
use Rattle.state_fits.proofs.AnswerSpoken.{served_process}
use Rattle.vm_state.specs.History.{entry_by}
use Rattle.state_pages.specs.Locking.{lock_service}
use Rattle.vm_state.proofs.Closing.{may_before, next_number, pushed}
use Rattle.vm_state.proofs.ServedCloses.{relocked_closes}
use Rattle.vm_state.proofs.SimpleCloses.{spoken_few}
use Rattle.vm_state.proofs.state.State.relock.Goals as goal

pub speak-requires-clause-few : goal.speak-requires-clause-few
speak-requires-clause-few g c =
    let may = may_before c.self.view_is c.requires in
    let there = served_process _ _ _ c.args.seat.0 (lock_service c.args.lock c.args.at c.args.pages) (answer.Count c.args.count) may.legal.row in
    let few = spoken_few c.self.invariant c.args.seat.0 c.index_mut-spoken.result.now there c.index_mut-spoken.ensures.value in
    let same = length-reverse c.self.inside.journal.entries in
    omega (arith, few, same)

pub invariant_of-self : goal.invariant_of-self
invariant_of-self g c =
    let may = may_before c.self.view_is c.requires in
    rw c.speak.ensures.row (pushed _ _ (entry_by c.args.seat (what.Served (lock_service c.args.lock c.args.at c.args.pages) (answer.Count c.args.count))) c.speak.new.journal (rw c.lock_service-s.ensures at c.speak.ensures.entry)
    (relocked_closes c.self.invariant c.args.seat c.index_mut-spoken.result.now c.index_mut-spoken.ensures.value _ (next_number c.self.inside.journal.entries _ refl)
    c.args.lock c.args.at c.args.pages c.args.count c.index_mut-row.result.now c.index_mut-row.ensures.value c.lock_range.new.ring c.lock_range.ensures may.legal may.paid))
