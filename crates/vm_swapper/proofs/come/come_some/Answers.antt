use Rattle.std.proofs.Common.{◌∙◌, arith, sym}
use Rattle.call_laws.proofs.ComeLegal.{come_legal}
use Rattle.vm_swapper.proofs.Makes.{comes_by_table, may_work, never_room}
use Rattle.vm_swapper.proofs.come.come_some.Goals as goal

pub come-requires-after_bounds : goal.come-requires-after_bounds
come-requires-after_bounds g c κs within = record {
  process = c.requires.process;
  legal =
      come_legal c.args.state.now.config c.args.state.now.past (c.args.seat).0 (c.args.p).0 (may_work c.args.state.now c.args.seat c.requires.idle c.run_law.ensures.formed c.run_law.ensures.run)
      c.requires.process c.requires.coming;
  room = let spare = c.spare.ensures in let owed = c.owed.ensures in let paid = c.run_law.ensures.paid in omega (arith, spare, owed, paid);
  carrier = c.requires.carrier;
}

pub returns-clause-room : goal.returns-clause-room
returns-clause-room g c = (
  λ is. absurd (never_room _ (sym is ∙ c.come.ensures.answer)),
  λ less. absurd (let spare = c.spare.ensures in let owed = c.owed.ensures in let test = c.if-spare-owed-lt64.false in omega (arith, less, spare, owed, test)),
)

pub returns-clause-by_table : goal.returns-clause-by_table
returns-clause-by_table g c = λ room. comes_by_table c.args.state.now c.args.seat (c.args.p).0 c.come.ensures
