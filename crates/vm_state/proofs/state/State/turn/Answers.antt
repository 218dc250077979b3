use Rattle.vm_state.specs.History.{entry_by}
use Rattle.vm_state.proofs.Closing.{may_before, pushed}
use Rattle.vm_state.proofs.SimpleCloses.{turn_closes}
use Rattle.vm_journal.specs.declared.entry.What.TheVariants as what
use Rattle.vm_state.proofs.state.State.turn.Goals as goal

pub invariant_of-self : goal.invariant_of-self
invariant_of-self g c =
    let may = may_before c.self.view_is c.requires in
    pushed _ _ (entry_by c.args.seat (what.Turn c.args.p c.args.status)) c.push.new.self c.push.ensures
    (turn_closes c.self.invariant c.args.seat c.args.p c.args.status may.legal may.paid c.index_mut-row.result.now c.index_mut-row.ensures.value c.turn_ring.new.ring c.turn_ring.ensures)
