-- What a seat that had nothing open has done.
use Rattle.std.proofs.Common.{◌≡◌, ℕ, ◌+◌, ◌++◌, false, List, [], ◌∷◌, Option, Some, filter, map, refl, sym, ap, ◌∙◌, subst}
use Rattle.vm_types.specs.BlockView.{BlockView, Tells}
use Rattle.vm_types.specs.declared.names.Seat.{Seat}
use Rattle.vm_types.specs.declared.service.Request.{Request}
use Rattle.vm_journal.specs.declared.entry.What.{What}
use Rattle.frame_store.specs.LiftView.{LiftView}
use Rattle.pager_model.specs.Flights.{Flight, awaits_reuse, carrier_of}
use Rattle.pager_policy.specs.Landings.{landed_by}
use Rattle.pager_model.specs.Transfers.{is_by}
use Rattle.lift_carriers.specs.CarrierView.{CarrierView}
use Rattle.vm_state.specs.Based.{base_of}
use Rattle.vm_state.specs.History.{History}
use Rattle.vm_state.specs.LiftsLand.{added_each}
use Rattle.call_begins.specs.Lifted.{HasBegunLifts, HasLifts, place_of, places_in}
use Rattle.call_begins.specs.MayBegin.{empty}
use Rattle.carried_landings.specs.Outside.{AllWait, AreOut}
use Rattle.carried_landings.specs.SeatFlights.{flight_place}
use Rattle.carried_landings.proofs.BegunFlights.{carrier_made}
use Rattle.carried_landings.proofs.CarriedOut.{begun_out, begun_wait}
use Rattle.carried_landings.proofs.Entries.{starts_calm, starts_land_none}
use Rattle.carried_landings.proofs.Shapes.{AreStarts}
use Rattle.seat_laws.specs.FreeSeat.{IsFreeSeat}
use Rattle.seat_laws.proofs.FreeSeats.{AreStill, not_busy, nothing_mapped, past_is, same_is, still_made}
use Rattle.seat_turns.specs.Begun.{CarriesFor, IsNoFault}
use Rattle.seat_turns.specs.Steps.{AreUnspoken, HasTurned, IsIdleTurn, IsStaged, TurnTells, is_short}
use Rattle.seat_turns.specs.Worked.{HasWorked}
use Rattle.seat_turns.specs.declared.turned.Turned.{Turned}
use Rattle.seat_turns.specs.declared.turned.Turned.TheVariants.{Spoke, Reads, Made, Waits, Rests, Short}
use Rattle.seat_turns.proofs.BegunCarriers.{starts_carry}
use Rattle.seat_turns.proofs.NoFaults.{BeginNoFaults}
use Rattle.seat_turns.proofs.Unspoken.{starts_unspoken}

-- ---- a seat without open transfers has none in its carrier
module _ {B : Type 0} {seen : B → BlockView} {tells : Tells} where
  pub empty_out : (t : History) (seat : Seat) (c : CarrierView B) → c ≡ empty seat → carrier_of seat.0 t.past ≡ [] → AreOut seen tells (base_of t) t.past seat c
  empty_out t seat c is none = subst (λ (x : CarrierView B). AreOut seen tells (base_of t) t.past seat x) (sym is) (record { own = refl; each = tt; whole = ap (map flight_place) none })

pub empty_waits : {B : Type 0} (seat : Seat) (c : CarrierView B) → c ≡ empty seat → AllWait c.lifts
empty_waits {B} seat c is = subst (λ (x : CarrierView B). AllWait x.lifts) (sym is) tt

pub no_lifts : {B : Type 0} (seat : Seat) (c : CarrierView B) → c ≡ empty seat → c.lifts ≡ []
no_lifts {B} seat c is = ap (λ (x : CarrierView B). x.lifts) is

pub staged_empty : {B : Type 0} (turned : Turned) (lifts : List (LiftView B)) → lifts ≡ [] → IsStaged turned lifts
staged_empty {B} Reads lifts none = subst (λ (xs : List (LiftView B)). AllWait xs) (sym none) tt
staged_empty {B} Made lifts none = subst (λ (xs : List (LiftView B)). AllWait xs) (sym none) tt
staged_empty (Spoke shown) lifts none = none
staged_empty Waits lifts none = none
staged_empty Rests lifts none = none
staged_empty Short lifts none = none

-- no entries leave the state as it was
pub nothing_made : (s t : History) (seat : Seat) (ws : List What) → t ≡ added_each seat ws s → ws ≡ [] → t ≡ s
nothing_made s t seat ws history none = history ∙ ap (λ (xs : List What). added_each seat xs s) none

-- ---- entries that begin and land nothing
module _ (s t : History) (seat : Seat) (free : IsFreeSeat s seat) (ws : List What) (history : t ≡ added_each seat ws s) (still : AreStill ws) where
  pub still_none : carrier_of seat.0 t.past ≡ []
  still_none =
      ap (carrier_of seat.0) (past_is s seat t ws history)
      ∙ (ap (λ (xs : List Flight). Rattle.std.proofs.Common.reverse (filter (is_by seat.0) xs)) (still_made seat.0 ws s.past still).flights ∙ free.free)

  pub still_calm : awaits_reuse t.past ≡ false
  still_calm = ap awaits_reuse (past_is s seat t ws history) ∙ (still_made seat.0 ws s.past still).calm free.calm

  pub still_worked : {B : Type 0} {seen : B → BlockView} {tells : Tells} → AreUnspoken ws → (c : CarrierView B) → c ≡ empty seat → HasWorked seen tells s t seat c
  still_worked unspoken c is = record {
    made = ws;
    history = history;
    unspoken = unspoken;
    calm = still_calm;
    out = empty_out t seat c is still_none;
    waits = empty_waits seat c is;
    begun = λ some. absurd (some (no_lifts seat c is));
  }

-- ---- transfers that begin
module _ {B : Type 0} {seen : B → BlockView} {tells : Tells} (s t : History) (seat : Seat) (free : IsFreeSeat s seat) (ws : List What) (history : t ≡ added_each seat ws s) (starts : AreStarts ws) (c : CarrierView B) (has : HasLifts seen tells t seat ws c) where
  begun_lifts : HasBegunLifts seen tells t seat c
  begun_lifts = record { own = has.own; begun = has.begun }

  pub starts_whole : map flight_place (carrier_of seat.0 t.past) ≡ map place_of c.lifts
  starts_whole =
      ap (λ (u : History). map flight_place (carrier_of seat.0 u.past)) history
      ∙ (carrier_made seat ws s (starts_land_none ws starts) ∙ (ap (λ (xs : List Flight). map flight_place xs ++ places_in ws) free.free ∙ sym has.each))

  pub starts_out : AreOut seen tells (base_of t) t.past seat c
  starts_out = begun_out t seat c begun_lifts starts_whole

  pub starts_wait : AllWait c.lifts
  starts_wait = begun_wait t seat c begun_lifts

  pub starts_are_calm : awaits_reuse t.past ≡ false
  starts_are_calm = ap awaits_reuse (past_is s seat t ws history) ∙ starts_calm seat.0 ws s.past starts free.calm

  -- what is in the carrier is open
  pub some_open : (c.lifts ≡ [] → ⊥) → carrier_of seat.0 t.past ≡ [] → ⊥
  some_open some none = some (nothing_mapped place_of c.lifts (sym starts_whole ∙ ap (map flight_place) none))

  pub starts_worked : BeginNoFaults ws → HasWorked seen tells s t seat c
  starts_worked none = record {
    made = ws;
    history = history;
    unspoken = starts_unspoken ws starts;
    calm = starts_are_calm;
    out = starts_out;
    waits = starts_wait;
    begun = λ some.
        subst (λ past. CarriesFor past seat.0 IsNoFault) (sym (past_is s seat t ws history))
        (starts_carry seat.0 ws s.past (not_busy seat.0 s.past free.free) free.free starts none
        (λ nothing. some_open some (ap (carrier_of seat.0) (past_is s seat t ws history) ∙ nothing)));
  }

-- ---- as a turn's step
-- the state goes on as it is, but for its entries
pub running_same : (s t : History) (seat : Seat) (ws : List What) → t ≡ added_each seat ws s → s.halted ≡ false → t ≡ record s { past = t.past; spare = t.spare; halted = false }
running_same s t seat ws history running = same_is s seat t ws history ∙ (λ i. record s { past = t.past; spare = t.spare; halted = running i })

module _ {B : Type 0} {seen : B → BlockView} {tells : Tells} (s t : History) (seat : Seat) where
  -- work for any request
  pub worked_turned : IsFreeSeat s seat → s.halted ≡ false → (request : Option Request) (c : CarrierView B) → HasWorked seen tells s t seat c → HasTurned seen tells s t seat request Made c
  worked_turned free running request c worked = record {
    made = worked.made;
    past = past_is s seat t worked.made worked.history;
    same = running_same s t seat worked.made worked.history running;
    answers = worked.unspoken;
    idle = λ no. absurd no;
    calm = worked.calm;
    out = worked.out;
    staged = worked.waits;
  }

  -- nothing at all
  pub waits_turned : IsFreeSeat s seat → s.halted ≡ false → t ≡ s → (request : Option Request) (turned : Turned) (c : CarrierView B) → c ≡ empty seat → IsIdleTurn turned → is_short turned ≡ false → TurnTells turned request [] → HasTurned seen tells s t seat request turned c
  waits_turned free running is request turned c is_empty idle not_short tells_none =
      subst (λ (u : History). HasTurned seen tells s u seat request turned c) (sym is) (record {
        made = [];
        past = refl;
        same = λ i. record s { halted = (running ∙ sym not_short) i };
        answers = tells_none;
        idle = λ yes. record { outcomes = []; landed = ap (λ (xs : List Flight). landed_by s.config seat.0 xs [] s.past) (sym free.free) };
        calm = free.calm;
        out = empty_out s seat c is_empty free.free;
        staged = staged_empty turned c.lifts (no_lifts seat c is_empty);
      })
