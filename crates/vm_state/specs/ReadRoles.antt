-- What an open read is for. This project's own.
use Rattle.std.specs.Prelude.{◌≡◌, ℕ, List, Some, find}
use Rattle.vm_journal.specs.declared.entry.Entry.{Entry}
use Rattle.vm_journal.specs.declared.entry.Role.{Role}
use Rattle.pager_model.specs.Flights.{Flight, open_flights, reading}
use Rattle.pager_model.specs.Transfers.{starts}

-- the open transfer with this number is a read of this role
abbrev pub IsReadAs : List Entry → ℕ → Role → Type 0
IsReadAs past k role = (x : Flight) × (find (starts k) (open_flights past) ≡ Some x) × (x.direction ≡ reading role)
