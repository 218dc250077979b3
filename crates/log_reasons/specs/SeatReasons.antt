-- What a rule of seats that doesn't hold states. This project's own.
use Rattle.std.specs.Prelude.{◌≡◌, ◌⊎◌, ◌+◌, ◌≤◌, ℕ, false, true, List, Some, length}
use Rattle.vm_types.specs.declared.config.Config.{Config}
use Rattle.vm_journal.specs.declared.entry.Entry.{Entry}
use Rattle.pager_model.specs.Carrier.{Carrying, carrying}
use Rattle.pager_model.specs.Flights.{Flight, awaits_reuse, begun_by, failed_flight, is_busy, is_reading, open_flights}
use Rattle.pager_model.specs.InTurn.{cluster_of, is_flight_work, is_reuse_of}
use Rattle.vm_types.specs.BlockOrder.{is_next_block}
use Rattle.pager_model.specs.Transfers.{is_fault}
use Rattle.log_reasons.specs.declared.reason.Reason.{Reason}
use Rattle.log_reasons.specs.declared.reason.Reason.TheVariants as reason

-- after a failed read comes the reuse of its frame by the same seat
abbrev pub ReuseNextFails : List Entry → Entry → Reason → Type 0
ReuseNextFails past e (reason.ReuseComesNext seat frame) =
    (x : Flight) × (failed_flight past ≡ Some x) × (seat.0 ≡ x.seat) × (frame.0 ≡ x.frame) × (awaits_reuse past ≡ true) × (is_reuse_of e.what (e.seat).0 (failed_flight past) ≡ false)
ReuseNextFails past e other = ⊥

-- a seat with an open flight does flight work alone
abbrev pub FlightWorkFails : List Entry → Entry → Reason → Type 0
FlightWorkFails past e reason.SeatHasOpenTransfer = (is_busy (e.seat).0 (open_flights past) ≡ true) × (is_flight_work e.what ≡ false)
FlightWorkFails past e other = ⊥

-- a flight joins the carrier: none of it has landed, it goes the same way, to the block after the last one's, there
-- is room, and it is no read for a fault
abbrev pub MayJoinFails : Config → Carrying → Flight → Reason → Type 0
MayJoinFails config c x (reason.CarrierHasLanded n) = (n ≡ c.landed) × (n ≡ 0 → ⊥)
MayJoinFails config c x reason.CarrierGoesOtherWay = (last : Flight) → c.last ≡ Some last → is_reading x.direction ≡ is_reading last.direction → ⊥
MayJoinFails config c x (reason.NotNextBlock b) = (last : Flight) × (c.last ≡ Some last) × (b ≡ last.block) × (is_next_block last.block x.block ≡ false)
MayJoinFails config c x (reason.ClusterIsFull n) = (n ≡ cluster_of config x.direction) × (n ≤ c.begun)
MayJoinFails config c x reason.FaultIsNotFirst = is_fault x.direction ≡ true
MayJoinFails config c x other = ⊥

-- the flight that the entry begins, if its seat has one open
abbrev pub JoinsFail : Config → List Entry → Entry → Reason → Type 0
JoinsFail config past e r =
    (x : Flight) × (begun_by (length past + 1) (e.seat).0 e.what ≡ Some x) × (is_busy (e.seat).0 (open_flights past) ≡ true) × MayJoinFails config (carrying (e.seat).0 past) x r

-- the three rules
abbrev pub InTurnFails : Config → List Entry → Entry → Reason → Type 0
InTurnFails config past e r = ReuseNextFails past e r ⊎ (FlightWorkFails past e r ⊎ JoinsFail config past e r)
