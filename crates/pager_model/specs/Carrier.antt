-- A seat's carrier: its flights from one that was begun while it had none open, up to the landing
-- after which it has none open. This project's own.
use Rattle.std.specs.Prelude.{◌≡◌, ℕ, Bool, true, false, ◌+◌, ◌&&◌, ◌||◌, List, [], ◌∷◌, Option, Some, None, length, nat_eq, nat_lt, if◌then◌else◌}
use Rattle.vm_journal.specs.declared.entry.Entry.{Entry}
use Rattle.vm_journal.specs.declared.entry.What.{What}
use Rattle.vm_journal.specs.declared.entry.What.TheVariants as what
use Rattle.pager_model.specs.Flights.{Flight, begun_by, is_busy, open_flights}
use Rattle.pager_model.specs.Transfers.{is_fault, starts}

-- a seat's last carrier: its first and its last flight, how many were begun, have landed, and failed,
-- whether the first one failed, and whether the seat has spoken since it began
pub record Carrying : Type 0 where
  pub first : Option Flight
  pub last : Option Flight
  pub begun : ℕ
  pub landed : ℕ
  pub failed : ℕ
  pub first_failed : Bool
  pub spoken_since : Bool

abbrev pub no_carrier : Carrying
no_carrier = record { first = None; last = None; begun = 0; landed = 0; failed = 0; first_failed = false; spoken_since = false }

-- one more flight of a busy seat, or the first of the next carrier
abbrev pub carried : Bool → Carrying → Option Flight → Carrying
carried true c (Some x) = record c { last = Some x; begun = c.begun + 1 }
carried false c (Some x) = record no_carrier { first = Some x; last = Some x; begun = 1 }
carried busy c None = c

abbrev pub is_start : Option Flight → ℕ → Bool
is_start None k = false
is_start (Some x) k = starts k x

abbrev pub landed_well : Carrying → Carrying
landed_well c = record c { landed = c.landed + 1 }

abbrev pub landed_badly : Carrying → ℕ → Carrying
landed_badly c k = record c { landed = c.landed + 1; failed = c.failed + 1; first_failed = c.first_failed || is_start c.first k }

abbrev pub having_spoken : Carrying → Carrying
having_spoken c = record c { spoken_since = true }

-- the carrier after the seat's own entry of this number
abbrev pub carrying_with : ℕ → ℕ → Bool → What → Carrying → Carrying
carrying_with number seat busy (what.In f b r) c = carried busy c (begun_by number seat (what.In f b r))
carrying_with number seat busy (what.Out f b) c = carried busy c (begun_by number seat (what.Out f b))
carrying_with number seat busy (what.InOk f k) c = landed_well c
carrying_with number seat busy (what.OutOk f k) c = landed_well c
carrying_with number seat busy (what.InFail f k old new) c = landed_badly c k
carrying_with number seat busy (what.OutFail f k old new) c = landed_badly c k
carrying_with number seat busy (what.Done r reply) c = having_spoken c
carrying_with number seat busy (what.Denied r reason) c = having_spoken c
carrying_with number seat busy (what.Served s reply) c = having_spoken c
carrying_with number seat busy other c = c

-- a seat's last carrier
abbrev pub carrying : ℕ → List Entry → Carrying
carrying seat [] = no_carrier
carrying seat (e ∷ past) =
    if nat_eq (e.seat).0 seat then carrying_with (length past + 1) seat (is_busy seat (open_flights past)) e.what (carrying seat past) else carrying seat past

abbrev pub begins_with_fault : Option Flight → Bool
begins_with_fault None = false
begins_with_fault (Some x) = is_fault x.direction

-- a carrier is lost where its first flight was a read of role FAULT that failed, or all its flights failed
abbrev pub is_lost : Carrying → Bool
is_lost c = nat_lt 0 c.begun && ((begins_with_fault c.first && c.first_failed) || nat_eq c.failed c.begun)

-- the seat's last carrier is lost, and landed after its last spoken entry: a seat that has open flights
-- speaks not, so it is enough that it hasn't spoken since the carrier began
pub record HasLost (past : List Entry) (seat : ℕ) : Type 0 where
  pub lost : is_lost (carrying seat past) ≡ true
  pub unspoken : (carrying seat past).spoken_since ≡ false
