-- What the reading of a dump from a source answers. Source: this project's own.
use Rattle.std.specs.Prelude.{◌≡◌, ℕ, ◌≤◌, List, [], Option, Some, Result, Ok, Err}
use Rattle.std.specs.Io.KnownBytes.{Consumes}
use Rattle.vm_types.specs.Counts.{Rose}
use Rattle.dump_bytes.specs.declared.dump.Dump.{Dump}
use Rattle.dump_bytes.specs.declared.fault.DumpFault.{DumpFault}
use Rattle.dump_bytes.specs.declared.fault.DumpFault.TheVariants.{NoMemory, ReadFault, Bad}
use Rattle.dump_bytes.specs.Dumped.{dumped}
use Rattle.dump_bytes.specs.Begins.{IsTextOf, BeginsDump, IsBadAfter}

-- what the answer says of the whole text of the input, and of what is left of it
abbrev pub AnswersDump : Result Dump DumpFault → List ℕ → Option (List ℕ) → Type 0
AnswersDump (Ok dump) text left = IsTextOf text (dumped dump) × (left ≡ Some [])
AnswersDump (Err (Bad n)) text left = IsBadAfter text n
AnswersDump (Err ReadFault) text left = (taken : List ℕ) × BeginsDump taken × Consumes (Some text) left taken
AnswersDump (Err NoMemory) text left = left ≡ Some text

-- the same if the dump was put elsewhere
abbrev pub answer_of : {T : Type 0} → Dump → Result T DumpFault → Result Dump DumpFault
answer_of dump (Ok done) = Ok dump
answer_of dump (Err fault) = Err fault

-- the count of failures rose at `ReadFault`; it may have risen at `Bad`, if a read failed after the
-- bytes that are bad; and it is else unchanged
abbrev pub FaultsByDump : Result Dump DumpFault → ℕ → ℕ → Type 0
FaultsByDump (Ok dump) before now = now ≡ before
FaultsByDump (Err (Bad n)) before now = before ≤ now
FaultsByDump (Err ReadFault) before now = Rose before now
FaultsByDump (Err NoMemory) before now = now ≡ before
