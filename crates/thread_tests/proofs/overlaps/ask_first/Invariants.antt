-- Both desks stay those of the first two seats.
use Rattle.std.proofs.Common.{◌≡◌}
use Rattle.vm_state.specs.Based.{base_of}
use Rattle.thread_tests.specs.Desks.{IsSeated}
use Rattle.thread_tests.proofs.overlaps.ask_first.Given as goal

abbrev pub invariant-loop-i : goal.invariant-loop-i
invariant-loop-i g l = record {
  a_seat : (l.a.carrier.seat).0 ≡ 0;
  a_seated : IsSeated l.lock (base_of l.of.value) l.a.pass l.a.carrier;
  b_seat : (l.b.carrier.seat).0 ≡ 1;
  b_seated : IsSeated l.lock (base_of l.of.value) l.b.pass l.b.carrier;
}
