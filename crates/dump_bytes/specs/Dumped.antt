-- What a dump holds, apart from where it lies in memory. Source: this project's own.
use Rattle.std.specs.Prelude.{ℕ, List, map}
use Rattle.dump_bytes.specs.declared.dump.FrameRec.{FrameRec}
use Rattle.dump_bytes.specs.declared.dump.SlotRec.{SlotRec}
use Rattle.dump_bytes.specs.declared.dump.ProcRec.{ProcRec}
use Rattle.dump_bytes.specs.declared.dump.Dump.{Dump}

pub record Process : Type 0 where
  pub status : ℕ
  pub hand : ℕ
  pub limit : ℕ
  pub slots : List SlotRec
  pub words : List (ℕ × ℕ)

pub record Dumped : Type 0 where
  pub frames : List FrameRec
  pub free : List ℕ
  pub modified : List ℕ
  pub size : ℕ
  pub charged : ℕ
  pub assigned : ℕ
  pub procs : List Process
  pub flights : List ℕ

-- a process without where it lies in memory
abbrev pub process_of : ProcRec → Process
process_of p = record {
  status = p.status;
  hand = p.hand;
  limit = p.limit;
  slots = p.slots.items;
  words = p.words.items;
}

-- a dump without where it lies in memory
abbrev pub dumped : Dump → Dumped
dumped d = record {
  frames = d.frames.items;
  free = d.free.items;
  modified = d.modified.items;
  size = d.size;
  charged = d.charged;
  assigned = d.assigned;
  procs = map process_of d.procs.items;
  flights = d.flights.items;
}
