use Rattle.std.proofs.Common.{◌≡◌, ℕ, ◌<◌, ◌≤◌, map, take, length, get_or}
use Rattle.dump_bytes.specs.declared.dump.ProcRec.{ProcRec}
use Rattle.dump_bytes.specs.Dumped.{process_of}
use Rattle.dump_bytes.specs.Reading.{process_at}
use Rattle.dump_bytes.specs.Room.{HasRoom}
use Rattle.dump_bytes.proofs.Repeating.{IsAlong}
use Rattle.dump_bytes.proofs.lists.processes_in.Given as goal

abbrev pub invariant-loop-i : goal.invariant-loop-i
invariant-loop-i l = record {
  there : length l.procs.items ≡ length l.fn.procs.items;
  room : (k : ℕ) (d : ProcRec) → l.i ≤ k → k < length l.procs.items → HasRoom (get_or l.procs.items k d);
  along : IsAlong (process_at l.frames) l.count l.fn.bytes (map process_of (take l.i l.procs.items)) l.rest;
}
