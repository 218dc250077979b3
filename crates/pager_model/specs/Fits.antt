-- A lift, that is a transfer that was begun and is carried outside the memory lock, still fits the journal.
-- This project's own.
use Rattle.std.specs.Prelude.{◌≡◌, ℕ, Bool, true, false, ◌<◌, List, Option, Some, find, nat_eq, not, if◌then◌else◌}
use Rattle.vm_types.specs.BlockView.{BlockView}
use Rattle.vm_types.specs.declared.names.Page.{Page}
use Rattle.vm_types.specs.declared.names.BlockId.{BlockId}
use Rattle.vm_types.specs.declared.config.Config.{Config}
use Rattle.vm_journal.specs.declared.entry.Entry.{Entry}
use Rattle.vm_journal.specs.declared.entry.What.{What}
use Rattle.vm_journal.specs.declared.entry.What.TheVariants as what
use Rattle.pager_model.specs.Bytes.{before, bytes_in}
use Rattle.pager_model.specs.Counted.{Counts, counts_of}
use Rattle.pager_model.specs.Flights.{Direction, Flight, is_reading, open_flights, reading, writing}
use Rattle.pager_model.specs.Pager.{Pager}
use Rattle.pager_model.specs.Spoken.{flat_after}
use Rattle.pager_model.specs.CountedBlock.{HasCounts, told_plan}
use Rattle.pager_model.specs.Transfers.{starts}

-- what a past and its state say of an open flight: the flight of this number, the page that its frame holds,
-- the bytes that are to be moved, and what is counted of its block
pub record FlightView : Type 0 where
  pub found : Option Flight
  pub held : Option Page
  pub bytes : List ℕ
  pub counts : Counts

-- for a read the page's bytes now, for a write those of when it began
abbrev pub meant : Config → List Entry → ℕ → Page → Direction → List ℕ
meant config past k g (reading role) = bytes_in config (flat_after config past) g
meant config past k g writing = bytes_in config (flat_after config (before k past)) g

abbrev pub flight_view : Config → List Entry → Pager → Flight → Page → FlightView
flight_view config past a x g =
    record { found = find (starts x.start) (open_flights past); held = a.page x.frame; bytes = meant config past x.start g x.direction; counts = counts_of x.block past }

-- waiting to be carried, carried well, or badly, with the block's count of failures before and after
pub data Result : Type 0 where
  waiting : Result
  good : Result
  bad : ℕ → ℕ → Result

pub record Lift : Type 0 where
  pub start : ℕ
  pub page : Page
  pub frame : ℕ
  pub block : BlockId
  pub is_read : Bool
  pub buffer : List ℕ
  pub seen : BlockView
  pub result : Result

-- the lift is of this flight
pub record IsOfFlight (lift : Lift) (x : Flight) : Type 0 where
  pub start : x.start ≡ lift.start
  pub frame : x.frame ≡ lift.frame
  pub block : x.block ≡ lift.block
  pub direction : is_reading x.direction ≡ lift.is_read

abbrev pub one_left : Bool → ℕ
one_left b = if b then 1 else 0

-- by its result: the one call is still to come; or it was made, the buffer has the read bytes, or the block the
-- written ones; or it failed, and the counts say so
abbrev pub FitsResult : Bool → Lift → Counts → List ℕ → Result → Type 0
FitsResult tells lift counts bytes waiting = HasCounts lift.seen counts (one_left lift.is_read) (one_left (not lift.is_read)) × ((lift.seen).faults ≡ counts.faults)
FitsResult tells lift counts bytes good =
    HasCounts lift.seen counts 0 0 × ((lift.seen).faults ≡ counts.faults)
    × (tells ≡ true → lift.is_read ≡ true → lift.buffer ≡ bytes) × (tells ≡ true → lift.is_read ≡ false → (lift.seen).content ≡ Some lift.buffer)
FitsResult tells lift counts bytes (bad c d) = HasCounts lift.seen counts 0 0 × (c ≡ counts.faults) × (d ≡ (lift.seen).faults) × (c < d)

-- the lift is of the flight, which is open, and of the page in its frame; a block that is read has the page's
-- bytes, and a buffer that is written has those of when the write began
pub record FitsView (tells : Bool) (plan : Option (List ℕ)) (x : Flight) (view : FlightView) (lift : Lift) : Type 0 where
  pub flight : IsOfFlight lift x
  pub found_x : view.found ≡ Some x
  pub held_page : view.held ≡ Some lift.page
  pub content : tells ≡ true → lift.is_read ≡ true → (lift.seen).content ≡ Some view.bytes
  pub buffer : tells ≡ true → lift.is_read ≡ false → lift.buffer ≡ view.bytes
  pub plan_is : (lift.seen).plan ≡ plan
  pub result : FitsResult tells lift view.counts view.bytes lift.result

abbrev pub FitsLift : Bool → Bool → Config → List Entry → Pager → Lift → Type 0
FitsLift tells tells_plan config past a lift = (x : Flight) × FitsView tells (told_plan config tells_plan lift.block) x (flight_view config past a x lift.page) lift

-- whether an entry lands the flight that began in entry j
abbrev pub lands : ℕ → What → Bool
lands j (what.InOk f k) = nat_eq j k
lands j (what.InFail f k c d) = nat_eq j k
lands j (what.OutOk f k) = nat_eq j k
lands j (what.OutFail f k c d) = nat_eq j k
lands j other = false

-- a lift of any type of blocks, by what is seen of a block
pub record LiftOf (B : Type 0) : Type 0 where
  pub start : ℕ
  pub page : Page
  pub frame : ℕ
  pub block : BlockId
  pub is_read : Bool
  pub buffer : List ℕ
  pub held : B
  pub result : Result

module _ {B : Type 0} (seen : B → BlockView) where
  abbrev pub lift_of : LiftOf B → Lift
  lift_of x = record { start = x.start; page = x.page; frame = x.frame; block = x.block; is_read = x.is_read; buffer = x.buffer; seen = seen x.held; result = x.result }
