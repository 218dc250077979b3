use Rattle.std.proofs.Common.{refl, arith}
use Rattle.std.proofs.lemmas.List.{length-reverse}
use Rattle.vm_journal.specs.declared.entry.What.TheVariants as what
use Rattle.vm_types.specs.declared.reply.Answer.TheVariants as answer
use Rattle.vm_types.specs.declared.service.Service.TheVariants as service
use Rattle.state_fits.proofs.ServedCan.{unmapped_behind, unmapped_entry}
use Rattle.vm_state.specs.History.{entry_by}
use Rattle.vm_state.proofs.Closing.{may_before, next_number, pushed}
use Rattle.vm_state.proofs.ServedCloses.{created_closes}
use Rattle.vm_state.proofs.SimpleCloses.{spoken_few}
use Rattle.vm_state.proofs.state.State.create.Goals as goal

pub speak-requires-clause-few : goal.speak-requires-clause-few
speak-requires-clause-few g c =
    let may = may_before c.self.view_is c.requires in
    let few = spoken_few c.self.invariant c.args.seat.0 c.index_mut-spoken.result.now may.legal.row.0.process c.index_mut-spoken.ensures.value in
    let same = length-reverse c.self.inside.journal.entries in
    omega (arith, few, same)

pub create_zeros-requires-clause-range : goal.create_zeros-requires-clause-range
create_zeros-requires-clause-range g c = (may_before c.self.view_is c.requires).legal.line.what.0.0

pub create_zeros-requires-clause-code : goal.create_zeros-requires-clause-code
create_zeros-requires-clause-code g c = (may_before c.self.view_is c.requires).legal.line.what.0.1

pub create_zeros-requires-clause-process : goal.create_zeros-requires-clause-process
create_zeros-requires-clause-process g c =
    let there = (may_before c.self.view_is c.requires).legal.row.0.process in
    let tables = c.self.invariant.parts.tables.procs in
    let sections = c.self.invariant.parts.sections.procs in
    (omega (arith, there, tables), omega (arith, there, sections))

pub create_zeros-requires-clause-absent : goal.create_zeros-requires-clause-absent
create_zeros-requires-clause-absent g c = λ v inside. unmapped_entry _ _ _ _ c.self.invariant.parts c.args.seat.0 v ((may_before c.self.view_is c.requires).legal.row.1 v inside)

pub create_zeros-requires-clause-free : goal.create_zeros-requires-clause-free
create_zeros-requires-clause-free g c = λ v inside. unmapped_behind _ _ _ _ c.self.invariant.parts c.args.seat.0 v ((may_before c.self.view_is c.requires).legal.row.1 v inside)

pub invariant_of-self : goal.invariant_of-self
invariant_of-self g c =
    let may = may_before c.self.view_is c.requires in
    rw c.speak.ensures.row (pushed _ _ (entry_by c.args.seat (what.Served (service.Create c.args.at c.args.pages c.args.prot) answer.Good)) c.speak.new.journal c.speak.ensures.entry
    (created_closes c.self.invariant c.args.seat c.index_mut-spoken.result.now c.index_mut-spoken.ensures.value _ (next_number c.self.inside.journal.entries _ refl)
    c.args.at c.args.pages c.args.prot c.create_zeros.new.tables c.create_zeros.ensures.procs c.create_zeros.ensures.changed
    c.create_zeros.new.sections c.create_zeros.ensures.sections.0 c.create_zeros.ensures.sections.1 c.create_zeros.ensures.behind may.legal may.paid))
