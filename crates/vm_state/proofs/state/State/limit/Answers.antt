use Rattle.vm_state.specs.History.{entry_by}
use Rattle.vm_state.proofs.Closing.{may_before, pushed}
use Rattle.vm_state.proofs.SimpleCloses.{limit_closes}
use Rattle.vm_journal.specs.declared.entry.What.TheVariants as what
use Rattle.vm_state.proofs.state.State.limit.Goals as goal

pub invariant_of-self : goal.invariant_of-self
invariant_of-self g c =
    let may = may_before c.self.view_is c.requires in
    pushed _ _ (entry_by c.args.seat (what.Limit c.args.n c.args.faults)) c.push.new.self c.push.ensures
    (limit_closes c.self.invariant c.args.seat c.args.n c.args.faults may.legal may.paid c.index_mut-row.result.now c.index_mut-row.ensures.value)
