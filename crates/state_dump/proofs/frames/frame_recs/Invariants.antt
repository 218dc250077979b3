use Rattle.std.proofs.Common.{◌≡◌, map}
use Rattle.std.specs.List.{range_with_len}
use Rattle.vm_state.specs.History.{pager}
use Rattle.dump_laws.specs.DumpAfter.{frame_at}
use Rattle.state_dump.proofs.frames.frame_recs.Given as goal

abbrev pub invariant-loop-f : goal.invariant-loop-f
invariant-loop-f g l = l.recs.items ≡ map (frame_at l.state.past (pager l.state)) (range_with_len 0 l.f)
