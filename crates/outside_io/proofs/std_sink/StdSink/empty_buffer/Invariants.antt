use Rattle.std.proofs.Common.{◌-◌, ◌≡◌, ◌≤◌}
use Rattle.std.specs.Io.KnownBytes.{Keeps, append_known}
use Rattle.outside_io.specs.BytesLeft.{pending}
use Rattle.outside_io.proofs.std_sink.StdSink.empty_buffer.Given as goal

abbrev pub invariant-loop-self : goal.invariant-loop-self
invariant-loop-self g l = record {
  bytes : Keeps (append_known (g.W.Write.contents l.initial.self.writer) (pending l.initial.self.buffer l.initial.self.done l.initial.self.filled))
      (append_known (g.W.Write.contents l.self.writer) (pending l.self.buffer l.self.done l.self.filled));
  within : l.self.done ≤ l.self.filled;
  room : l.self.filled ≤ 65536;
  faults : l.self.faults ≡ l.initial.self.faults;
}

abbrev pub decreases-loop-self : goal.decreases-loop-self
decreases-loop-self g l = l.self.filled - l.self.done
