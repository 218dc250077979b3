use Rattle.std.proofs.Common.{sym}
use Rattle.entry_lines.proofs.Behind.{behind}
use Rattle.entry_lines.proofs.read.last_flight.Goals as goal

pub returns-in_err-f : goal.returns-in_err-f
returns-in_err-f c = rw c.from_residual.ensures (record {
  found = tt;
  none = λ x has is. c.in_err-f.ensures.none x.0 _ has.0 is;
})

pub returns-in_err-k : goal.returns-in_err-k
returns-in_err-k c = rw c.from_residual-in_err-k.ensures (record {
  found = tt;
  none = λ x has is. c.in_err-k.ensures.none x.1 _ has.1 (behind is c.in_ok-f.ensures.found.1);
})

pub returns-in_err-end : goal.returns-in_err-end
returns-in_err-end c = rw c.from_residual-in_err-end.ensures (record {
  found = tt;
  none = λ x has is. c.in_err-end.ensures (sym (behind (behind is c.in_ok-f.ensures.found.1) c.in_ok-k.ensures.found.1));
})
