-- One cluster of the writer's seat, and what its carrying and landing makes of it.
use Rattle.std.proofs.Common.{◌≡◌, ℕ, zero, suc, ◌+◌, ◌*◌, ◌≤◌, ◌||◌, Bool, false, true, cond, List, [], ◌∷◌, Option, Some, None, length, map, nat_eq, refl, sym, ap, ◌∙◌, subst, arith}
use Rattle.std.proofs.lemmas.List.{length-map}
use Rattle.vm_types.specs.BlockView.{BlockView, Tells}
use Rattle.vm_types.specs.declared.config.Config.{Config}
use Rattle.vm_types.specs.declared.names.BlockId.{BlockId}
use Rattle.vm_types.specs.declared.names.Seat.{Seat}
use Rattle.vm_journal.specs.declared.entry.What.{What}
use Rattle.pager_model.specs.Flights.{is_busy, carrier_of}
use Rattle.pager_policy.specs.Given.{Given, given}
use Rattle.pager_policy.specs.Landings.{first_bad}
use Rattle.pager_policy.specs.Moves.{carries}
use Rattle.pager_model.specs.Pager.{Pager}
use Rattle.pager_policy.specs.Rundown.{written_for_need}
use Rattle.pager_policy.specs.WriteCluster.{BeginIs, begin_carry, begin_gives, begin_nothing, block_out, is_enough, reason_need, writes_from, writes_taken}
use Rattle.call_begins.specs.Lifted.{HasBegunLifts, HasLifts, place_of, places_in}
use Rattle.call_begins.specs.MayBegin.{MayBegin, empty}
use Rattle.carried_landings.specs.HaveLanded.{HaveLanded}
use Rattle.carried_landings.specs.SeatFlights.{flight_place}
use Rattle.carried_landings.specs.declared.carrier_landed.CarrierLanded.{CarrierLanded}
use Rattle.modified_writer.specs.Begins.{Begins}
use Rattle.modified_writer.specs.declared.begun.Begin.{Begin}
use Rattle.lift_carriers.specs.CarrierView.{CarrierView}
use Rattle.vm_state.specs.History.{History, owed, pager}
use Rattle.carried_landings.specs.CarriedOn.{IsLoaded}
use Rattle.carried_landings.specs.Moved.{IsMoved, IsSameBut, IsSteady}
use Rattle.carried_landings.proofs.CarriersLand.{goes_there}
use Rattle.carried_landings.proofs.Entries.{starts_mute}
use Rattle.carried_landings.proofs.Moving.{carries_move, loaded}
use Rattle.carried_landings.proofs.WrittenClusters.{begin_starts, begun_lifts}
use Rattle.rundown.specs.Cleans.{HasLanded, HasWritten, writer_seat}

-- ---- between two moves nothing is owed, and the writer's seat may begin
pub nothing_owed : (s : History) → IsSteady s → owed s.past ≡ 0
nothing_owed s steady = λ i. 2 * length (steady.between.landed i) + cond (steady.between.reused i) 1 0

pub has_room : (s : History) → IsSteady s → owed s.past + 64 ≤ s.spare
has_room s steady = let none = nothing_owed s steady in let room = steady.room in omega (arith, none, room)

pub may_begin : (s : History) (seat : Seat) → seat ≡ writer_seat s → IsSteady s → MayBegin s seat
may_begin s seat is steady = record {
  there = let same = ap (λ (x : Seat). x.0) is in omega (arith, same);
  idle = ap (is_busy seat.0) steady.between.landed;
  calm = steady.between.reused;
}

-- ---- each write is a lift
placed : (config : Config) (a : Pager) (n : ℕ) (last : Option BlockId) (frames : List ℕ) → length (places_in (writes_from config a n last frames)) ≡ length (writes_from config a n last frames)
placed config a n last [] = refl
placed config a n last (f ∷ frames) = go n (block_out config a last (a.page f)) (λ (b : BlockId) (m : ℕ). placed config a m (Some b) frames)
  where
    go : (n : ℕ) (o : Option BlockId) → ((b : BlockId) (m : ℕ) → length (places_in (writes_from config a m (Some b) frames)) ≡ length (writes_from config a m (Some b) frames))
        → length (places_in (writes_taken f n o (λ (b : BlockId) (m : ℕ). writes_from config a m (Some b) frames))) ≡ length (writes_taken f n o (λ (b : BlockId) (m : ℕ). writes_from config a m (Some b) frames))
    go zero o rest = refl
    go (suc m) None rest = refl
    go (suc m) (Some b) rest = ap suc (rest b m)

all_placed : (config : Config) (a : Pager) → length (places_in (written_for_need config a)) ≡ length (written_for_need config a)
all_placed config a = by (is_enough config a reason_need || nat_eq (length a.modified) 0)
  where
    either : Bool → List What
    either b = (cond {A = Given BeginIs} b (given [] begin_nothing) (given (writes_from config a config.params.wrtcluster None a.modified) begin_carry)).made

    by : (b : Bool) → length (places_in (either b)) ≡ length (either b)
    by true = refl
    by false = placed config a config.params.wrtcluster None a.modified

-- ---- the flights have landed
module _ (s t : History) (seat own : Seat) (answer : CarrierLanded) where
  pub landed_so : (tells : Bool) → own ≡ seat → HaveLanded s.config own.0 s.past t.past answer → IsSameBut s t → HasLanded tells s t seat.0 answer.all_failed
  landed_so tells is landed same = λ onward c to.
      let there : HaveLanded s.config seat.0 s.past t.past answer = subst (λ (x : Seat). HaveLanded s.config x.0 s.past t.past answer) is landed in
      goes_there s t seat answer there same tells onward c (ap (λ (b : Bool). onward b (first_bad there.outcomes)) (sym there.all_failed) ∙ to (first_bad there.outcomes))

module _ {B : Type 0} {seen : B → BlockView} {tells : Tells} where
  -- ---- a loaded carrier, as its own seat's
  pub own_lifts : (s : History) (seat : Seat) (c : CarrierView B) → IsLoaded seen tells s seat c → HasBegunLifts seen tells s c.seat c
  own_lifts s seat c is = subst (λ (x : Seat). HasBegunLifts seen tells s x c) (sym is.lifts.own) is.lifts

  pub own_whole : (s : History) (seat : Seat) (c : CarrierView B) → IsLoaded seen tells s seat c → map flight_place (carrier_of (c.seat).0 s.past) ≡ map place_of c.lifts
  own_whole s seat c is = subst (λ (x : Seat). map flight_place (carrier_of x.0 s.past) ≡ map place_of c.lifts) (sym is.lifts.own) is.whole

  -- ---- the cluster that was begun
  module _ (s t : History) (seat : Seat) (begin : Begin) (old new : CarrierView B) (steady : IsSteady s) (is : old ≡ empty seat)
      (begins : Begins seen tells s t seat (begin_gives s.config (pager s) reason_need) begin old new) where
    has_lifts : HasLifts seen tells t seat (written_for_need s.config (pager s)) new
    has_lifts = begun_lifts s t seat reason_need begin old new is begins

    pub cluster_loaded : IsLoaded seen tells t seat new
    cluster_loaded = loaded s t seat (written_for_need s.config (pager s)) begins.history new steady.between (begin_starts s reason_need) has_lifts

    pub cluster_counted : (count : ℕ) → count ≡ length new.lifts → count ≡ length (written_for_need s.config (pager s))
    cluster_counted count count_is = count_is ∙ (sym (length-map new.lifts place_of) ∙ (ap (λ (xs : List (ℕ × BlockId)). length xs) has_lifts.each ∙ all_placed s.config (pager s)))

    pub cluster_written : (after : History) (all_failed : Bool) → seat ≡ writer_seat s → HasLanded tells.content t after seat.0 all_failed → HasWritten tells.content s after all_failed
    cluster_written after all_failed own landed = λ onward c to.
        subst (λ (x : Seat). IsMoved tells.content s after (carries x.0 (written_for_need s.config (pager s)) onward) c) own
        (carries_move s t seat (written_for_need s.config (pager s)) begins.history tells.content after onward c (starts_mute (written_for_need s.config (pager s)) (begin_starts s reason_need)) (landed onward c to))
