-- What the open flights say of a frame, a block and a seat. This project's own.
use Rattle.std.specs.Prelude.{◌≡◌, ℕ, Bool, true, false, ◌+◌, ◌&&◌, List, count_by, nat_eq, nat_lt, not}
use Rattle.std.specs.List.{list_any}
use Rattle.vm_types.specs.Same.{same_block}
use Rattle.vm_types.specs.Configuration.{IsBlock}
use Rattle.vm_types.specs.declared.names.BlockId.{BlockId}
use Rattle.vm_types.specs.declared.config.Config.{Config}
use Rattle.vm_journal.specs.declared.entry.Role.{Role}
use Rattle.vm_journal.specs.declared.entry.Role.TheVariants as role
use Rattle.pager_model.specs.Flights.{Direction, Flight, is_reading, reading, writing}

-- the flight that began in entry k
abbrev pub starts : ℕ → Flight → Bool
starts k x = nat_eq x.start k

abbrev pub is_read_on : ℕ → Flight → Bool
is_read_on f x = nat_eq x.frame f && is_reading x.direction

abbrev pub is_write_on : ℕ → Flight → Bool
is_write_on f x = nat_eq x.frame f && not (is_reading x.direction)

-- how many reads, and how many writes, are open on a frame
abbrev pub reads_on : ℕ → List Flight → ℕ
reads_on f flights = count_by (is_read_on f) flights

abbrev pub writes_on : ℕ → List Flight → ℕ
writes_on f flights = count_by (is_write_on f) flights

-- whether the frame has an open flight
abbrev pub is_in_flight : ℕ → List Flight → Bool
is_in_flight f flights = nat_lt 0 (reads_on f flights + writes_on f flights)

abbrev pub is_on_block : BlockId → Flight → Bool
is_on_block b x = same_block b x.block

-- a block is home where it is one of the configuration and in no flight
pub record IsHome (config : Config) (b : BlockId) (flights : List Flight) : Type 0 where
  pub exists : IsBlock config b
  pub still : count_by (is_on_block b) flights ≡ 0

abbrev pub is_fault_role : Role → Bool
is_fault_role (role.Fault p address) = true
is_fault_role other = false

abbrev pub is_fault : Direction → Bool
is_fault (reading r) = is_fault_role r
is_fault writing = false

abbrev pub is_fault_of : ℕ → Flight → Bool
is_fault_of s x = nat_eq x.seat s && is_fault x.direction

-- how many open reads of role FAULT a seat has
abbrev pub faults_of : ℕ → List Flight → ℕ
faults_of s flights = count_by (is_fault_of s) flights

abbrev pub is_come_role : ℕ → Role → Bool
is_come_role p (role.Come q address) = nat_eq q.0 p
is_come_role p other = false

abbrev pub is_come : ℕ → Direction → Bool
is_come p (reading r) = is_come_role p r
is_come p writing = false

-- whether a page of the process is coming
abbrev pub has_come : ℕ → List Flight → Bool
has_come p flights = list_any (λ (x : Flight). is_come p x.direction) flights

abbrev pub is_by : ℕ → Flight → Bool
is_by seat x = nat_eq x.seat seat

-- how many open flights a seat has
abbrev pub flights_of : ℕ → List Flight → ℕ
flights_of seat flights = count_by (is_by seat) flights
