-- What the readers of transfers show. This project's own.
use Rattle.pager_model.specs.Flights.{Flight}
use Rattle.state_pages.specs.declared.found.OpenRead.{OpenRead}

-- the seat that reads, and the entry that began it
abbrev pub read_by : Flight → OpenRead
read_by x = record { seat = record { 0 = x.seat }; start = x.start }
