use Rattle.dump_bytes.specs.Dumped.{process_of}
use Rattle.dump_lines.proofs.Raising.{raised_as}
use Rattle.dump_lines.proofs.Tallying.{one_pins, one_shares}
use Rattle.dump_lines.proofs.recounting.count_process.Goals as goal

pub returns-clause-shares : goal.returns-clause-shares
returns-clause-shares c = raised_as _ _ _ _ (rw c.deref.ensures.value at c.count_entries.ensures) (λ f. one_shares (process_of c.args.proc.now) f)

pub returns-clause-uses : goal.returns-clause-uses
returns-clause-uses c = raised_as _ _ _ _ (rw (c.deref-2.ensures.value, c.deref-3.ensures.value) at c.count_pins.ensures) (λ f. one_pins (process_of c.args.proc.now) f)
