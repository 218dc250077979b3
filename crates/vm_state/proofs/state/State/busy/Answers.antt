use Rattle.std.proofs.Common.{◌+◌, ◌<◌, length, ap, sym, subst, ◌∙◌}
use Rattle.pager_model.specs.Flights.{is_busy, open_flights}
use Rattle.vm_state.specs.History.{History}
use Rattle.vm_state.proofs.WhatIsRead as reads
use Rattle.vm_state.proofs.state.State.busy.Goals as goal

pub returns : goal.returns
returns g c =
    reads.busy_is c.self.invariant c.args.seat.0 c.index.result.now (subst (λ (s : History). c.args.seat.0 < length s.config.procs + 2) (sym c.self.view_is) c.requires) c.index.ensures
    ∙ ap (λ (s : History). is_busy c.args.seat.0 (open_flights s.past)) c.self.view_is
