-- Whose turn it is: the three rules of seats. This project's own.
use Rattle.std.specs.Prelude.{◌≡◌, ℕ, Bool, true, false, ◌+◌, ◌<◌, ◌&&◌, List, Option, Some, None, length, nat_eq}
use Rattle.vm_types.specs.BlockOrder.{is_next_block}
use Rattle.vm_types.specs.declared.config.Config.{Config}
use Rattle.vm_journal.specs.declared.entry.Entry.{Entry}
use Rattle.vm_journal.specs.declared.entry.What.{What}
use Rattle.vm_journal.specs.declared.entry.What.TheVariants as what
use Rattle.pager_model.specs.Carrier.{Carrying, carrying}
use Rattle.pager_model.specs.Flights.{Direction, Flight, awaits_reuse, begun_by, failed_flight, is_busy, is_reading, open_flights, reading, writing}
use Rattle.pager_model.specs.Transfers.{is_fault}

-- a carrier has at most so many reads, or writes
abbrev pub cluster_of : Config → Direction → ℕ
cluster_of config (reading r) = config.params.pfc
cluster_of config writing = config.params.wrtcluster

-- a flight may join the carrier: none of it has landed, it goes the same way, to the block after the
-- last one's, there is room, and it is no read of role FAULT, which is always its carrier's first
pub record MayJoin (config : Config) (c : Carrying) (x : Flight) : Type 0 where
  pub last : Flight
  pub lasts : c.last ≡ Some last
  pub none_landed : c.landed ≡ 0
  pub same_way : is_reading x.direction ≡ is_reading last.direction
  pub next_block : is_next_block last.block x.block ≡ true
  pub room : c.begun < cluster_of config x.direction
  pub not_fault : is_fault x.direction ≡ false

-- what a seat with an open flight does
abbrev pub is_flight_work : What → Bool
is_flight_work (what.Reuse f g) = true
is_flight_work (what.In f b r) = true
is_flight_work (what.Out f b) = true
is_flight_work (what.InOk f k) = true
is_flight_work (what.OutOk f k) = true
is_flight_work (what.InFail f k old new) = true
is_flight_work (what.OutFail f k old new) = true
is_flight_work other = false

-- the reuse, by this seat, of the frame whose read failed
abbrev pub is_reuse_of : What → ℕ → Option Flight → Bool
is_reuse_of (what.Reuse f g) seat None = false
is_reuse_of (what.Reuse f g) seat (Some x) = nat_eq x.seat seat && nat_eq x.frame f.0
is_reuse_of other seat o = false

-- after a failed read comes the reuse of its frame by the same seat; a seat with an open flight does
-- flight work alone; and a flight that such a seat begins joins its carrier
pub record InTurn (config : Config) (past : List Entry) (e : Entry) : Type 0 where
  pub reuse : awaits_reuse past ≡ true → is_reuse_of e.what (e.seat).0 (failed_flight past) ≡ true
  pub work : is_busy (e.seat).0 (open_flights past) ≡ true → is_flight_work e.what ≡ true
  pub carrier : (x : Flight) → begun_by (length past + 1) (e.seat).0 e.what ≡ Some x → is_busy (e.seat).0 (open_flights past) ≡ true → MayJoin config (carrying (e.seat).0 past) x
