use Rattle.std.proofs.Common.{◌≡◌, ℕ, sym, ap, subst, ◌∙◌, arith}
use Rattle.vm_types.specs.declared.names.ProcStatus.TheVariants as status
use Rattle.vm_types.specs.Status.{is_resident}
use Rattle.vm_state.specs.History.{pager}
use Rattle.vm_services.proofs.Steps.{may_serve}
use Rattle.call_begins.proofs.ReadySeats.{is_in_memory}
use Rattle.vm_services.proofs.server.serve_first.Goals as goal

pub resident-requires-clause-may : goal.resident-requires-clause-may
resident-requires-clause-may g c κs within =
    may_serve c.args.state.now c.args.seat c.args.s
    (record {
      formed = c.run_law.ensures.formed;
      run = c.run_law.ensures.run;
      short = c.run_law.ensures.short;
      seat_is = c.requires.idle;
      resident = subst (λ (n : ℕ). (pager c.args.state.now).status n ≡ status.Resident) (sym c.requires.own) (is_in_memory _ (ap is_resident (sym c.status.ensures) ∙ (sym c.is_resident.ensures ∙ c.if-is_resident.true)));
    }) c.requires.known c.requires.formed (let spare = c.spare.ensures in let owed = c.owed.ensures in let paid = c.run_law.ensures.paid in omega (arith, spare, owed, paid))
