use Rattle.std.proofs.Common.{◌≡◌, take}
use Rattle.vm_types.specs.Ring.{filled}
use Rattle.vm_state.specs.History.{pager}
use Rattle.pfn_report.specs.Counts.{AreFrameCounts, passed, pins_passed}
use Rattle.pfn_report.proofs.slots.count_slots.Given as goal

abbrev pub invariant-loop-n : goal.invariant-loop-n
invariant-loop-n g l = record {
  count : l.count ≡ filled (take l.n ((pager l.state).ring (l.p).0).slots);
  shares : AreFrameCounts l.state.config.frames (passed (pager l.state) (l.p).0 l.n) l.shares;
  pins : AreFrameCounts l.state.config.frames (pins_passed (pager l.state) (l.p).0 l.n) l.pins;
}
