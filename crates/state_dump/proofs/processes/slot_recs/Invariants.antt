use Rattle.std.proofs.Common.{◌≡◌, map, take}
use Rattle.dump_laws.specs.DumpAfter.{dumped_slot}
use Rattle.vm_state.specs.History.{pager}
use Rattle.state_dump.proofs.processes.slot_recs.Given as goal

abbrev pub invariant-loop-n : goal.invariant-loop-n
invariant-loop-n g l = l.recs.items ≡ map dumped_slot (take l.n ((pager l.state).ring (l.p).0).slots)
