-- Open flights: transfers that have begun and have not landed. This project's own.
use Rattle.std.specs.Prelude.{ℕ, Bool, true, false, ◌+◌, ◌&&◌, List, [], ◌∷◌, Option, Some, None, length, filter, nat_eq, not, if◌then◌else◌, reverse}
use Rattle.std.specs.List.{list_any}
use Rattle.vm_types.specs.declared.names.BlockId.{BlockId}
use Rattle.vm_journal.specs.declared.entry.Entry.{Entry}
use Rattle.vm_journal.specs.declared.entry.Role.{Role}
use Rattle.vm_journal.specs.declared.entry.What.{What}
use Rattle.vm_journal.specs.declared.entry.What.TheVariants as what

-- a read, with its role, or a write
pub data Direction : Type 0 where
  reading : Role → Direction
  writing : Direction

-- what began in entry `start`
pub record Flight : Type 0 where
  pub start : ℕ
  pub seat : ℕ
  pub frame : ℕ
  pub block : BlockId
  pub direction : Direction

abbrev pub without_flight : ℕ → List Flight → List Flight
without_flight k flights = filter (λ (x : Flight). not (nat_eq x.start k)) flights

-- the open flights after an entry with this number
abbrev pub flights_with : ℕ → ℕ → What → List Flight → List Flight
flights_with number seat (what.In f block role) flights =
    let begun : Flight = record { start = number; seat = seat; frame = f.0; block = block; direction = reading role } in begun ∷ flights
flights_with number seat (what.Out f block) flights =
    let begun : Flight = record { start = number; seat = seat; frame = f.0; block = block; direction = writing } in begun ∷ flights
flights_with number seat (what.InOk f k) flights = without_flight k flights
flights_with number seat (what.InFail f k c d) flights = without_flight k flights
flights_with number seat (what.OutOk f k) flights = without_flight k flights
flights_with number seat (what.OutFail f k c d) flights = without_flight k flights
flights_with number seat other flights = flights

-- the open flights of a past, the newest first
abbrev pub open_flights : List Entry → List Flight
open_flights [] = []
open_flights (e ∷ past) = flights_with (length past + 1) (e.seat).0 e.what (open_flights past)

-- a seat's open flights, in the order in which they were begun
abbrev pub carrier_of : ℕ → List Entry → List Flight
carrier_of seat past = reverse (filter (λ (x : Flight). nat_eq x.seat seat) (open_flights past))

abbrev pub is_reading : Direction → Bool
is_reading (reading role) = true
is_reading writing = false

abbrev pub has_flight : ℕ → List Flight → Bool
has_flight f flights = list_any (λ (x : Flight). nat_eq x.frame f) flights

abbrev pub has_read : ℕ → List Flight → Bool
has_read f flights = list_any (λ (x : Flight). nat_eq x.frame f && is_reading x.direction) flights

abbrev pub has_write : ℕ → List Flight → Bool
has_write f flights = list_any (λ (x : Flight). nat_eq x.frame f && not (is_reading x.direction)) flights

-- whether a seat has an open flight
abbrev pub is_busy : ℕ → List Flight → Bool
is_busy seat flights = list_any (λ (x : Flight). nat_eq x.seat seat) flights

abbrev pub fails_read_of : ℕ → What → Bool
fails_read_of f (what.InFail g k c d) = nat_eq g.0 f
fails_read_of f other = false

-- whether the newest entry is the failed read of the frame, which is reused by the next one
abbrev pub has_failed_read : ℕ → List Entry → Bool
has_failed_read f [] = false
has_failed_read f (e ∷ past) = fails_read_of f e.what

abbrev pub fails_read : What → Bool
fails_read (what.InFail g k c d) = true
fails_read other = false

abbrev pub awaits_reuse : List Entry → Bool
awaits_reuse [] = false
awaits_reuse (e ∷ past) = fails_read e.what

-- the transfer that began in the entry with this number
abbrev pub begun_by : ℕ → ℕ → What → Option Flight
begun_by number seat (what.In f block role) = Some (record { start = number; seat = seat; frame = f.0; block = block; direction = reading role })
begun_by number seat (what.Out f block) = Some (record { start = number; seat = seat; frame = f.0; block = block; direction = writing })
begun_by number seat other = None

abbrev pub begun_in : ℕ → List Entry → Option Flight
begun_in k [] = None
begun_in k (e ∷ past) = if nat_eq k (length past + 1) then begun_by k (e.seat).0 e.what else begun_in k past

abbrev pub failed_in : List Entry → What → Option Flight
failed_in past (what.InFail f k c d) = begun_in k past
failed_in past other = None

-- the read whose failure is the newest entry
abbrev pub failed_flight : List Entry → Option Flight
failed_flight [] = None
failed_flight (e ∷ past) = failed_in past e.what
