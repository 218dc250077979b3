-- A seat without open transfers, and what entries leave of its flights.
use Rattle.std.proofs.Common.{◌≡◌, ℕ, ◌<◌, false, List, [], ◌∷◌, filter, length, map, refl, sym, ap, ◌∙◌, subst}
use Rattle.std.specs.List.{AllByRecursion}
use Rattle.std.proofs.lemmas.List.{length-map, nil_from_length}
use Rattle.std.proofs.lemmas.List.Sums.{length-filter}
use Rattle.vm_types.specs.declared.names.Seat.{Seat}
use Rattle.vm_types.specs.declared.reference.Ref.{Ref}
use Rattle.vm_types.specs.declared.reply.Reply.{Reply}
use Rattle.vm_journal.specs.declared.entry.Entry.{Entry}
use Rattle.vm_journal.specs.declared.entry.What.{What}
use Rattle.vm_journal.specs.declared.entry.What.TheVariants as what
use Rattle.frame_store.specs.LiftView.{LiftView}
use Rattle.pager_model.specs.Flights.{Flight, awaits_reuse, is_busy, open_flights, carrier_of}
use Rattle.pager_policy.specs.Given.{by_seat, made_by, with_reply}
use Rattle.pager_model.specs.Transfers.{is_by}
use Rattle.pager_rules.proofs.Basics.{count_none}
use Rattle.vm_state.specs.History.{History}
use Rattle.vm_state.specs.LiftsLand.{added_each}
use Rattle.call_begins.specs.Lifted.{place_of}
use Rattle.call_begins.specs.MayBegin.{MayBegin}
use Rattle.call_begins.specs.ReadySeat.{IsIdleSeat}
use Rattle.carried_landings.specs.SeatFlights.{flight_place}
use Rattle.carried_landings.proofs.SeatLandings.{none_by, others_idle}
use Rattle.carried_landings.proofs.Entries.{each_past, each_same}
use Rattle.carried_landings.proofs.Shapes.{AreQuiet, EndsIn, IsQuiet, IsServedOnce}
use Rattle.seat_laws.specs.FreeSeat.{IsFreeSeat}

-- ---- a seat without open transfers
pub not_busy : (seat : ℕ) (past : List Entry) → carrier_of seat past ≡ [] → is_busy seat (open_flights past) ≡ false
not_busy seat past free = ap (is_busy seat) (none_by seat past free) ∙ others_idle seat (open_flights past)

pub carries_none : (seat : ℕ) (past : List Entry) → is_busy seat (open_flights past) ≡ false → carrier_of seat past ≡ []
carries_none seat past idle =
    ap (λ (xs : List Flight). Rattle.std.proofs.Common.reverse xs) (nil_from_length (filter (is_by seat) (open_flights past)) (length-filter (is_by seat) (open_flights past) ∙ count_none (is_by seat) (open_flights past) idle))

pub may_begin : (s : History) (seat : Seat) → IsFreeSeat s seat → MayBegin s seat
may_begin s seat free = record { there = free.there; idle = not_busy seat.0 s.past free.free; calm = free.calm }

pub nothing_mapped : {X Y : Type 0} (f : X → Y) (xs : List X) → map f xs ≡ [] → xs ≡ []
nothing_mapped f xs none = nil_from_length xs (sym (length-map xs f) ∙ ap length none)

pub free_by_lifts : {B : Type 0} (seat : ℕ) (past : List Entry) (lifts : List (LiftView B)) → map flight_place (carrier_of seat past) ≡ map place_of lifts → lifts ≡ [] → carrier_of seat past ≡ []
free_by_lifts seat past lifts whole none = nothing_mapped flight_place (carrier_of seat past) (whole ∙ ap (map place_of) none)

-- ---- entries that begin and land no transfer
abbrev pub IsStillEntry : What → Type 0
IsStillEntry (what.In f b r) = ⊥
IsStillEntry (what.InOk f k) = ⊥
IsStillEntry (what.InFail f k c d) = ⊥
IsStillEntry (what.Out f b) = ⊥
IsStillEntry (what.OutOk f k) = ⊥
IsStillEntry (what.OutFail f k c d) = ⊥
IsStillEntry other = Unit {0}

abbrev pub AreStill : List What → Type 0
AreStill ws = AllByRecursion IsStillEntry ws

-- what is in flight stays, and no reuse comes to be due
pub record LeavesFlights (before after : List Entry) : Type 0 where
  pub flights : open_flights after ≡ open_flights before
  pub calm : awaits_reuse before ≡ false → awaits_reuse after ≡ false

still_one : (seat : ℕ) (w : What) (past : List Entry) → IsStillEntry w → LeavesFlights past (by_seat seat w ∷ past)
still_one seat (what.In f b r) past still = absurd still
still_one seat (what.InOk f k) past still = absurd still
still_one seat (what.InFail f k c d) past still = absurd still
still_one seat (what.Out f b) past still = absurd still
still_one seat (what.OutOk f k) past still = absurd still
still_one seat (what.OutFail f k c d) past still = absurd still
still_one seat other past still = record { flights = refl; calm = λ calm. refl }

pub still_made : (seat : ℕ) (ws : List What) (past : List Entry) → AreStill ws → LeavesFlights past (made_by seat ws past)
still_made seat [] past still = record { flights = refl; calm = λ calm. calm }
still_made seat (w ∷ ws) past still =
    let first = still_one seat w past still.0 in
    let rest = still_made seat ws (by_seat seat w ∷ past) still.1 in
    record { flights = rest.flights ∙ first.flights; calm = λ calm. rest.calm (first.calm calm) }

quiet_one : (w : What) → IsQuiet w → IsStillEntry w
quiet_one (what.In f b r) quiet = absurd quiet
quiet_one (what.InOk f k) quiet = absurd quiet
quiet_one (what.InFail f k c d) quiet = absurd quiet
quiet_one (what.Out f b) quiet = absurd quiet
quiet_one (what.OutOk f k) quiet = absurd quiet
quiet_one (what.OutFail f k c d) quiet = absurd quiet
quiet_one other quiet = tt

pub quiet_are_still : (ws : List What) → AreQuiet ws → AreStill ws
quiet_are_still [] quiet = tt
quiet_are_still (w ∷ ws) quiet = (quiet_one w quiet.0, quiet_are_still ws quiet.1)

pub none_are_still : (ws : List What) → ws ≡ [] → AreStill ws
none_are_still ws none = subst AreStill (sym none) tt

pub served_are_still : (ws : List What) → IsServedOnce ws → AreStill ws
served_are_still (what.Served s answer ∷ []) served = (tt, tt)
served_are_still [] served = absurd served
served_are_still (what.Served s answer ∷ v ∷ ws) served = absurd served
served_are_still (other ∷ ws) served = absurd served

pub ended_are_still : (r : Ref) (ws : List What) → EndsIn r ws → AreStill ws
ended_are_still r [] ends = absurd ends
ended_are_still r (what.Done q reply ∷ []) ends = (tt, tt)
ended_are_still r (what.Denied q why ∷ []) ends = (tt, tt)
ended_are_still r (w ∷ ws) ends = (quiet_one w ends.0, ended_are_still r ws ends.1)

shown_one : (reply : Reply) (w : What) → IsStillEntry w → IsStillEntry (with_reply reply w)
shown_one reply (what.In f b r) still = absurd still
shown_one reply (what.InOk f k) still = absurd still
shown_one reply (what.InFail f k c d) still = absurd still
shown_one reply (what.Out f b) still = absurd still
shown_one reply (what.OutOk f k) still = absurd still
shown_one reply (what.OutFail f k c d) still = absurd still
shown_one reply (what.Done r other) still = tt
shown_one reply other still = still

pub shown_are_still : (reply : Reply) (ws : List What) → AreStill ws → AreStill (map (with_reply reply) ws)
shown_are_still reply [] still = tt
shown_are_still reply (w ∷ ws) still = (shown_one reply w still.0, shown_are_still reply ws still.1)

-- ---- the history after the seat's entries
module _ (s : History) (seat : Seat) (t : History) (ws : List What) (history : t ≡ added_each seat ws s) where
  pub past_is : t.past ≡ made_by seat.0 ws s.past
  past_is = ap (λ (u : History). u.past) history ∙ each_past seat ws s

  pub same_is : t ≡ record s { past = t.past; spare = t.spare }
  same_is = subst (λ (u : History). u ≡ record s { past = u.past; spare = u.spare }) (sym history) (each_same seat ws s)

-- the seat of a process that may refer to memory
pub idle_seat : (s : History) (seat : Seat) → IsFreeSeat s seat → seat.0 < length s.config.procs → IsIdleSeat s seat
idle_seat s seat free process = record { process = process; idle = not_busy seat.0 s.past free.free; calm = free.calm }
