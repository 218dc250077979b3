-- What entries of a shape leave of a history: its flights, its right values, and who may reuse.
use Rattle.std.proofs.Common.{◌≡◌, ℕ, false, List, [], ◌∷◌, refl, ◌∙◌}
use Rattle.std.specs.List.{AllByRecursion}
use Rattle.vm_types.specs.declared.names.Seat.{Seat}
use Rattle.vm_journal.specs.declared.entry.Entry.{Entry}
use Rattle.vm_journal.specs.declared.entry.What.{What}
use Rattle.vm_journal.specs.declared.entry.What.TheVariants as what
use Rattle.pager_model.specs.Flights.{awaits_reuse, open_flights}
use Rattle.pager_policy.specs.Given.{by_seat, made_by}
use Rattle.carried_landings.proofs.BegunFlights.{LandsNone}
use Rattle.vm_state.specs.History.{History, added, entry_by}
use Rattle.vm_state.specs.LiftsLand.{added_each}
use Rattle.carried_landings.proofs.Mute.{IsMute}
use Rattle.carried_landings.proofs.Shapes.{AreQuiet, AreStarts, IsQuiet, IsServedOnce, IsStart}

-- ---- the history after a seat's entries
pub each_past : (seat : Seat) (ws : List What) (s : History) → (added_each seat ws s).past ≡ made_by seat.0 ws s.past
each_past seat [] s = refl
each_past seat (w ∷ ws) s = each_past seat ws (added s (entry_by seat w))

pub each_same : (seat : Seat) (ws : List What) (s : History) → added_each seat ws s ≡ record s { past = (added_each seat ws s).past; spare = (added_each seat ws s).spare }
each_same seat [] s = refl
each_same seat (w ∷ ws) s = each_same seat ws (added s (entry_by seat w))

-- ---- transfers that begin
starts_mute_one : (w : What) → IsStart w → IsMute w
starts_mute_one (what.Done r reply) start = absurd start
starts_mute_one other start = tt

pub starts_mute : (ws : List What) → AreStarts ws → AllByRecursion IsMute ws
starts_mute [] starts = tt
starts_mute (w ∷ ws) starts = (starts_mute_one w starts.0, starts_mute ws starts.1)

starts_land_none_one : (w : What) → IsStart w → LandsNone w
starts_land_none_one (what.InOk f k) start = absurd start
starts_land_none_one (what.InFail f k c d) start = absurd start
starts_land_none_one (what.OutOk f k) start = absurd start
starts_land_none_one (what.OutFail f k c d) start = absurd start
starts_land_none_one other start = tt

pub starts_land_none : (ws : List What) → AreStarts ws → AllByRecursion LandsNone ws
starts_land_none [] starts = tt
starts_land_none (w ∷ ws) starts = (starts_land_none_one w starts.0, starts_land_none ws starts.1)

start_calm : (seat : ℕ) (w : What) (past : List Entry) → IsStart w → awaits_reuse (by_seat seat w ∷ past) ≡ false
start_calm seat (what.InFail f k c d) past start = absurd start
start_calm seat other past start = refl

pub starts_calm : (seat : ℕ) (ws : List What) (past : List Entry) → AreStarts ws → awaits_reuse past ≡ false → awaits_reuse (made_by seat ws past) ≡ false
starts_calm seat [] past starts calm = calm
starts_calm seat (w ∷ ws) past starts calm = starts_calm seat ws (by_seat seat w ∷ past) starts.1 (start_calm seat w past starts.0)

-- ---- entries that begin and end no transfer
-- what is in flight, and whether a reuse is due, stay as they were
pub record IsStill (before after : List Entry) : Type 0 where
  pub flights : open_flights after ≡ open_flights before
  pub calm : awaits_reuse before ≡ false → awaits_reuse after ≡ false

still_then : (a b c : List Entry) → IsStill a b → IsStill b c → IsStill a c
still_then a b c first second = record { flights = second.flights ∙ first.flights; calm = λ calm. second.calm (first.calm calm) }

quiet_one : (seat : ℕ) (w : What) (past : List Entry) → IsQuiet w → IsStill past (by_seat seat w ∷ past)
quiet_one seat (what.Done r reply) past quiet = absurd quiet
quiet_one seat (what.Denied r why) past quiet = absurd quiet
quiet_one seat (what.Served s answer) past quiet = absurd quiet
quiet_one seat (what.In f b r) past quiet = absurd quiet
quiet_one seat (what.InOk f k) past quiet = absurd quiet
quiet_one seat (what.InFail f k c d) past quiet = absurd quiet
quiet_one seat (what.Out f b) past quiet = absurd quiet
quiet_one seat (what.OutOk f k) past quiet = absurd quiet
quiet_one seat (what.OutFail f k c d) past quiet = absurd quiet
quiet_one seat other past quiet = record { flights = refl; calm = λ calm. refl }

pub quiet_still : (seat : ℕ) (ws : List What) (past : List Entry) → AreQuiet ws → IsStill past (made_by seat ws past)
quiet_still seat [] past quiet = record { flights = refl; calm = λ calm. calm }
quiet_still seat (w ∷ ws) past quiet = still_then past (by_seat seat w ∷ past) (made_by seat ws (by_seat seat w ∷ past)) (quiet_one seat w past quiet.0) (quiet_still seat ws (by_seat seat w ∷ past) quiet.1)

quiet_mute_one : (w : What) → IsQuiet w → IsMute w
quiet_mute_one (what.Done r reply) quiet = absurd quiet
quiet_mute_one other quiet = tt

pub quiet_mute : (ws : List What) → AreQuiet ws → AllByRecursion IsMute ws
quiet_mute [] quiet = tt
quiet_mute (w ∷ ws) quiet = (quiet_mute_one w quiet.0, quiet_mute ws quiet.1)

-- ---- a service's answer
pub served_mute : (ws : List What) → IsServedOnce ws → AllByRecursion IsMute ws
served_mute (what.Served s answer ∷ []) served = (tt, tt)
served_mute [] served = absurd served
served_mute (what.Served s answer ∷ v ∷ ws) served = absurd served
served_mute (other ∷ ws) served = absurd served

pub served_still : (seat : ℕ) (ws : List What) (past : List Entry) → IsServedOnce ws → IsStill past (made_by seat ws past)
served_still seat (what.Served s answer ∷ []) past served = record { flights = refl; calm = λ calm. refl }
served_still seat [] past served = absurd served
served_still seat (what.Served s answer ∷ v ∷ ws) past served = absurd served
served_still seat (other ∷ ws) past served = absurd served
