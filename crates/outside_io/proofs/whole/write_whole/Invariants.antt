use Rattle.std.proofs.Common.{length, take, ◌-◌, ◌≡◌, ◌≤◌, is_some}
use Rattle.std.specs.Io.KnownBytes.{Appends}
use Rattle.outside_io.proofs.whole.write_whole.Given as goal

abbrev pub invariant-loop-done : goal.invariant-loop-done
invariant-loop-done g l = record {
  within : l.done ≤ length l.text;
  bytes : Appends (g.K.Sink.seen l.initial.sink).taken (g.K.Sink.seen l.sink).taken (take l.done l.text);
  known : is_some (g.K.Sink.seen l.sink).taken ≡ is_some (g.K.Sink.seen l.initial.sink).taken;
  faults : (g.K.Sink.seen l.sink).failures ≡ (g.K.Sink.seen l.initial.sink).failures;
  stalls : (g.K.Sink.seen l.sink).stalls ≡ (g.K.Sink.seen l.initial.sink).stalls;
}

abbrev pub decreases-loop-done : goal.decreases-loop-done
decreases-loop-done g l = length l.text - l.done
