-- The reference count of a frame, counted anew: one for all its shares together, one for each open transfer, and
-- one for each pin. Source: Kenah and Bate, "VAX/VMS Internals and Data Structures", the PFN database, reference
-- count; pins are this project's own.
use Rattle.std.specs.Prelude.{ℕ, ◌+◌, nat_lt, if◌then◌else◌}
use Rattle.dump_bytes.specs.Dumped.{Dumped}
use Rattle.dump_lines.specs.Shares.{shares_of}
use Rattle.dump_lines.specs.Occurrences.{times_in}
use Rattle.dump_lines.specs.Pins.{pins_of}

abbrev pub refs_of : Dumped → ℕ → ℕ
refs_of d f = (if nat_lt 0 (shares_of d f) then 1 else 0) + times_in d.flights f + pins_of d f
