use Rattle.std.proofs.Common.{arith}
use Rattle.call_laws.proofs.LeaveLegal.{leave_legal}
use Rattle.vm_swapper.proofs.Makes.{leaves_by_table, may_work}
use Rattle.vm_swapper.proofs.leave.leave_some.Goals as goal

pub leave-requires-after_bounds : goal.leave-requires-after_bounds
leave-requires-after_bounds g c κs within = record {
  process = c.requires.process;
  legal =
      leave_legal c.args.state.now.config c.args.state.now.past (c.args.seat).0 (c.args.p).0 (may_work c.args.state.now c.args.seat c.requires.idle c.run_law.ensures.formed c.run_law.ensures.run)
      c.requires.process c.requires.leaving;
  room = let spare = c.spare.ensures in let owed = c.owed.ensures in let paid = c.run_law.ensures.paid in omega (arith, spare, owed, paid);
  carrier = c.requires.carrier;
}

pub returns-clause-by_table : goal.returns-clause-by_table
returns-clause-by_table g c = λ room. leaves_by_table c.args.state.now c.args.seat (c.args.p).0 c.leave.ensures
