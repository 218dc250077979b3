use Rattle.std.proofs.Common.{◌≡◌}
use Rattle.trace_maker.specs.Made.{made_body, state_after}
use Rattle.trace_maker.proofs.make.body.Given as goal

abbrev pub invariant-loop-n : goal.invariant-loop-n
invariant-loop-n l = record {
  state : l.draws.state ≡ state_after l.seed l.n;
  body : l.body ≡ made_body l.seed l.procs l.n;
}
