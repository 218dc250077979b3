use Rattle.std.proofs.Common.{◌≤◌, ◌-◌, All, vec_len, vec_capacity}
use Rattle.dump_bytes.specs.Room.{HasRoom}
use Rattle.dump_bytes.proofs.room.processes_with_room.Given as goal

abbrev pub invariant-loop-alloc : goal.invariant-loop-alloc
invariant-loop-alloc l = record {
  room : 16 ≤ vec_capacity l.procs;
  few : vec_len l.procs ≤ 16;
  each : All HasRoom l.procs.items;
}

abbrev pub decreases-loop-alloc : goal.decreases-loop-alloc
decreases-loop-alloc l = 16 - vec_len l.procs
