use Rattle.std.proofs.Common.{◌≡◌, ℕ, false, sym, ap, subst, ◌∙◌, arith}
use Rattle.vm_types.specs.declared.names.ProcStatus.TheVariants as status
use Rattle.vm_types.specs.Status.{is_resident}
use Rattle.vm_state.specs.History.{pager}
use Rattle.fault_core.proofs.Advances.{may_advance}
use Rattle.fault_core.proofs.ByTable.{by_table, waits_by_table}
use Rattle.call_begins.specs.ReadySeat.{IsReadySeat}
use Rattle.call_begins.proofs.ReadySeats.{is_in_memory}
use Rattle.fault_core.proofs.handler.advance.Goals as goal

pub resident-requires-after_bounds : goal.resident-requires-after_bounds
resident-requires-after_bounds g c κs within =
    let ready : IsReadySeat c.args.state.now c.args.seat = record {
      formed = c.run_law.ensures.formed;
      run = c.run_law.ensures.run;
      short = c.run_law.ensures.short;
      seat_is = c.requires.idle;
      resident = subst (λ (n : ℕ). (pager c.args.state.now).status n ≡ status.Resident) (sym c.requires.own) (is_in_memory _ (ap is_resident (sym c.status.ensures) ∙ (sym c.is_resident.ensures ∙ c.if-is_resident.true)));
    } in
    record {
      ready = ready;
      formed = c.requires.formed;
      may = may_advance c.args.state.now c.args.seat c.args.r ready c.requires.formed (let spare = c.spare.ensures in let owed = c.owed.ensures in let paid = c.run_law.ensures.paid in omega (arith, spare, owed, paid));
      carrier = c.requires.carrier;
    }

pub returns-then-is_resident-clause-by_table : goal.returns-then-is_resident-clause-by_table
returns-then-is_resident-clause-by_table g c = λ room. by_table c.args.state.now c.args.seat c.args.r c.run_law.ensures.formed c.run_law.ensures.run c.requires.idle.process c.resident.ensures.given

pub returns-else-is_resident-clause-by_table : goal.returns-else-is_resident-clause-by_table
returns-else-is_resident-clause-by_table g c = λ room. waits_by_table c.args.state.now c.args.seat c.args.r c.run_law.ensures.formed c.run_law.ensures.run c.requires.idle.process
    (subst (λ (n : ℕ). is_resident ((pager c.args.state.now).status n) ≡ false) (sym c.requires.own) (ap is_resident (sym c.status.ensures) ∙ (sym c.is_resident.ensures ∙ c.if-is_resident.false)))
