use Rattle.std.proofs.Common.{◌≤◌, ◌-◌, vec_len, vec_capacity}
use Rattle.dump_bytes.specs.Reading.{frame_at}
use Rattle.dump_bytes.proofs.Repeating.{IsAlong}
use Rattle.dump_bytes.proofs.lists.frames_in.Given as goal

abbrev pub invariant-loop-rest : goal.invariant-loop-rest
invariant-loop-rest l = record {
  room : l.count ≤ vec_capacity l.frames;
  along : IsAlong (frame_at l.procs) l.count l.fn.bytes l.frames.items l.rest;
}

abbrev pub decreases-loop-rest : goal.decreases-loop-rest
decreases-loop-rest l = l.count - vec_len l.frames
