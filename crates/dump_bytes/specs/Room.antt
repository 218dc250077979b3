-- Room in memory for what a dump can hold, before it is read. Source: this project's own.
use Rattle.std.specs.Prelude.{◌≡◌, ◌≤◌, [], length, vec_capacity, All}
use Rattle.vm_types.specs.declared.limits.TheConstants.{MOST_EXTENT, MOST_FRAMES}
use Rattle.dump_bytes.specs.declared.dump.ProcRec.{ProcRec}
use Rattle.dump_bytes.specs.declared.dump.Dump.{Dump}

-- a process without slots and entries, and room for as many as there can be
pub record HasRoom (p : ProcRec) : Type 0 where
  pub no_slots : p.slots.items ≡ []
  pub slots : MOST_EXTENT ≤ vec_capacity p.slots
  pub no_words : p.words.items ≡ []
  pub words : MOST_EXTENT ≤ vec_capacity p.words

-- a dump with empty lists and as many processes as there can be, and room for all the rest
pub record IsRoomy (d : Dump) : Type 0 where
  pub no_frames : d.frames.items ≡ []
  pub frames : MOST_FRAMES ≤ vec_capacity d.frames
  pub no_free : d.free.items ≡ []
  pub free : MOST_FRAMES ≤ vec_capacity d.free
  pub no_modified : d.modified.items ≡ []
  pub modified : MOST_FRAMES ≤ vec_capacity d.modified
  pub procs : length d.procs.items ≡ 16
  pub each : All HasRoom d.procs.items
  pub no_flights : d.flights.items ≡ []
  pub flights : MOST_FRAMES ≤ vec_capacity d.flights
