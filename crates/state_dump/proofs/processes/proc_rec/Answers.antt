use Rattle.std.proofs.Common.{◌∙◌, ap}
use Rattle.dump_laws.specs.DumpAfter.{status_code}
use Rattle.state_dump.proofs.processes.proc_rec.Goals as goal

pub returns : goal.returns
returns g c = λ i. record {
  status = (c.status_code-status.ensures ∙ ap status_code c.status.ensures) i;
  hand = c.hand-hand.ensures i;
  limit = c.limit_of-limit.ensures i;
  slots = c.in_ok-slots.ensures i;
  words = c.in_ok-words.ensures i;
}
