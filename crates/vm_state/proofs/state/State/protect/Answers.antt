use Rattle.std.proofs.Common.{refl, arith}
use Rattle.std.proofs.lemmas.List.{length-reverse}
use Rattle.vm_journal.specs.declared.entry.What.TheVariants as what
use Rattle.vm_types.specs.declared.reply.Answer.TheVariants as answer
use Rattle.vm_types.specs.declared.service.Service.TheVariants as service
use Rattle.state_fits.proofs.ServedCan.{mapped_entry}
use Rattle.vm_state.specs.History.{entry_by}
use Rattle.vm_state.proofs.Closing.{may_before, next_number, pushed}
use Rattle.vm_state.proofs.ServedCloses.{protected_closes}
use Rattle.vm_state.proofs.SimpleCloses.{spoken_few}
use Rattle.vm_state.proofs.state.State.protect.Goals as goal

pub speak-requires-clause-few : goal.speak-requires-clause-few
speak-requires-clause-few g c =
    let may = may_before c.self.view_is c.requires in
    let few = spoken_few c.self.invariant c.args.seat.0 c.index_mut-spoken.result.now may.legal.row.0.process c.index_mut-spoken.ensures.value in
    let same = length-reverse c.self.inside.journal.entries in
    omega (arith, few, same)

pub protect-requires-clause-range : goal.protect-requires-clause-range
protect-requires-clause-range g c = (may_before c.self.view_is c.requires).legal.line.what.0.0

pub protect-requires-clause-code : goal.protect-requires-clause-code
protect-requires-clause-code g c = (may_before c.self.view_is c.requires).legal.line.what.0.1

pub protect-requires-clause-mapped : goal.protect-requires-clause-mapped
protect-requires-clause-mapped g c = λ v inside.
    let page = (may_before c.self.view_is c.requires).legal.row.1 v inside in
    mapped_entry _ _ _ _ c.self.invariant.parts c.args.seat.0 v page.0 page.1

pub invariant_of-self : goal.invariant_of-self
invariant_of-self g c =
    let may = may_before c.self.view_is c.requires in
    rw c.speak.ensures.row (pushed _ _ (entry_by c.args.seat (what.Served (service.Protect c.args.at c.args.pages c.args.prot) answer.Good)) c.speak.new.journal c.speak.ensures.entry
    (protected_closes c.self.invariant c.args.seat c.index_mut-spoken.result.now c.index_mut-spoken.ensures.value _ (next_number c.self.inside.journal.entries _ refl)
    c.args.at c.args.pages c.args.prot c.protect.new.tables c.protect.ensures.procs c.protect.ensures.changed may.legal may.paid))
