-- Which flight an entry lands, and how. This project's own.
use Rattle.std.specs.Prelude.{ℕ, List, Option, Some, None, find}
use Rattle.vm_journal.specs.declared.entry.What.{What}
use Rattle.vm_journal.specs.declared.entry.What.TheVariants as what
use Rattle.pager_model.specs.Flights.{Flight}
use Rattle.pager_model.specs.Transfers.{starts}

-- the flight that the entry lands, by the number of the entry that began it
abbrev pub landed_flight : What → Option ℕ
landed_flight (what.InOk f k) = Some k
landed_flight (what.InFail f k c d) = Some k
landed_flight (what.OutOk f k) = Some k
landed_flight (what.OutFail f k c d) = Some k
landed_flight other = None

-- the open flight that the entry says has failed, if it is a read
abbrev pub failed_read_in : What → List Flight → Option Flight
failed_read_in (what.InFail f k c d) flights = find (starts k) flights
failed_read_in other flights = None

-- the flight that the entry says has failed, by the number of the entry that began it, and its block's count
abbrev pub failure_in : What → Option (ℕ × ℕ)
failure_in (what.InFail f k c d) = Some (k, d)
failure_in (what.OutFail f k c d) = Some (k, d)
failure_in other = None
