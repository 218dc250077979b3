use Rattle.std.proofs.Common.{arith, length, ◌-◌, drop, take, length-drop, length-take}
use Rattle.outside_io.proofs.Handing.{some_handed_on}
use Rattle.outside_io.proofs.std_sink.StdSink.empty_buffer.Goals as goal

pub loop-self-preserved : goal.loop-self-preserved
loop-self-preserved g c =
    let done = c.loop-self.self.done in
    let held = take c.loop-self.self.filled c.loop-self.self.buffer in
    record {
      bytes = some_handed_on _ _ _ held done c.in-Ok.count c.loop-self.invariant.bytes c.in-Ok.ensures.bytes;
      within = omega (arith, length-drop done held, length-take (length held - done) (drop done held), length-take c.loop-self.self.filled c.loop-self.self.buffer, c.in-Ok.ensures.bound, c.loop-self.invariant.within);
      room = c.loop-self.invariant.room;
      faults = c.loop-self.invariant.faults;
    }
