-- A move that is made of a seat's entries, and one whose carrier lands behind them.
use Rattle.std.proofs.Common.{◌≡◌, Bool, false, List, [], ◌∷◌, map, refl, sym, ap, ◌∙◌, subst}
use Rattle.std.specs.List.{AllByRecursion}
use Rattle.vm_types.specs.BlockView.{BlockView, Tells}
use Rattle.vm_types.specs.declared.config.Config.{Config}
use Rattle.vm_types.specs.declared.names.Seat.{Seat}
use Rattle.vm_journal.specs.declared.entry.Entry.{Entry}
use Rattle.vm_journal.specs.declared.entry.What.{What}
use Rattle.pager_model.specs.Flights.{awaits_reuse, open_flights, carrier_of}
use Rattle.pager_policy.specs.Given.{made_by, unsaid}
use Rattle.pager_policy.specs.Moves.{After, Control as ControlIs, carries, makes}
use Rattle.pager_policy.specs.Serial.{IsCarried}
use Rattle.pager_model.specs.Spoken.{IsRight, flat_after}
use Rattle.call_begins.specs.Lifted.{HasLifts}
use Rattle.carried_landings.specs.SeatFlights.{flight_place, of_others}
use Rattle.carried_landings.proofs.BegunFlights.{none_of_others, only_own, whole_made}
use Rattle.serial_laws.specs.Between.{IsBetween}
use Rattle.serial_laws.proofs.Kept.{carriers_between}
use Rattle.serial_laws.proofs.LegalRefusals.{refusal_legal}
use Rattle.lift_carriers.specs.CarrierView.{CarrierView}
use Rattle.vm_state.specs.History.{History, added, entry_by}
use Rattle.vm_state.specs.LiftsLand.{added_each}
use Rattle.carried_landings.specs.CarriedOn.{IsCarriedOn, IsLoaded, MayRefuse}
use Rattle.carried_landings.specs.Moved.{IsMoveHere, IsMoved, IsSameBut}
use Rattle.carried_landings.proofs.Entries.{each_past, each_same, starts_calm, starts_land_none}
use Rattle.carried_landings.proofs.Mute.{IsMute, mute_same, mute_shows}
use Rattle.carried_landings.proofs.Shapes.{AreStarts}

-- right values stay right behind entries that show none
each_right : (seat : Seat) (ws : List What) (s : History) → AllByRecursion IsMute ws → IsRight s.config s.past → IsRight (added_each seat ws s).config (added_each seat ws s).past
each_right seat [] s mute right = right
each_right seat (w ∷ ws) s mute right = each_right seat ws (added s (entry_by seat w)) mute.1 (right, mute_shows s.config (flat_after s.config s.past) seat.0 w mute.0)

pub same_then : (s t u : History) → IsSameBut s t → IsSameBut t u → IsSameBut s u
same_then s t u first second = second ∙ ap (λ (x : History). record x { past = u.past; spare = u.spare }) first

module _ (s t : History) (seat : Seat) (ws : List What) (made : t ≡ added_each seat ws s) where
  pub past_is : t.past ≡ made_by seat.0 ws s.past
  past_is = ap (λ (x : History). x.past) made ∙ each_past seat ws s

  pub same_is : IsSameBut s t
  same_is = subst (λ (x : History). IsSameBut s x) (sym made) (each_same seat ws s)

  config_is : t.config ≡ s.config
  config_is = ap (λ (x : History). x.config) same_is

  right_is : AllByRecursion IsMute ws → IsRight s.config s.past → IsRight t.config t.past
  right_is mute right = subst (λ (x : History). IsRight x.config x.past) (sym made) (each_right seat ws s mute right)

  -- the entries alone
  pub makes_move : (tells : Bool) (c : ControlIs) → AllByRecursion IsMute ws → IsMoved tells s t (makes seat.0 ws c) c
  makes_move tells c mute = record {
    heard = record { outcomes = []; reply = unsaid };
    made = (past_is ∙ ap (λ (vs : List What). made_by seat.0 vs s.past) (sym (mute_same unsaid ws mute)), refl, refl);
    same = same_is;
    right = λ told right. right_is mute right;
  }

  -- and a carrier's landing behind them
  pub carries_move : (tells : Bool) (after : History) (onward : Bool → Bool → After) (next : ControlIs) → AllByRecursion IsMute ws → IsCarriedOn tells t after seat.0 onward next → IsMoved tells s after (carries seat.0 ws onward) next
  carries_move tells after onward next mute carried = record {
    heard = carried.heard;
    made =
        subst (λ (k : Config). IsCarried k seat.0 (made_by seat.0 ws s.past) onward carried.heard after.past next) config_is
        (subst (λ (p : List Entry). IsCarried t.config seat.0 p onward carried.heard after.past next) past_is carried.carried);
    same = same_then s t after same_is carried.same;
    right = λ told right. carried.right told (right_is mute right);
  }

  -- the refusal that the landing may lead to is legal
  pub may_refuse : (onward : Bool → Bool → After) → IsBetween s.config s.past → IsMoveHere s (carries seat.0 ws onward) → MayRefuse t.config t.past seat.0 onward
  may_refuse onward between here =
      subst (λ (k : Config). MayRefuse k t.past seat.0 onward) (sym config_is)
      (subst (λ (p : List Entry). MayRefuse s.config p seat.0 onward) (sym past_is)
      (λ outcomes each run refused.
      refusal_legal s.config s.past here.at seat.0 ws onward outcomes _ between here.fits here.body here.is each refl
      (carriers_between s.config s.past here.at seat.0 ws onward outcomes _ between here.fits here.is each refl run) refused))

  module _ {B : Type 0} {seen : B → BlockView} {tells : Tells} (c : CarrierView B) where
    -- the carrier is loaded with what was begun
    pub loaded : IsBetween s.config s.past → AreStarts ws → HasLifts seen tells t seat ws c → IsLoaded seen tells t seat c
    loaded between starts has = record {
      calm = subst (λ (p : List Entry). awaits_reuse p ≡ false) (sym past_is) (starts_calm seat.0 ws s.past starts between.reused);
      lifts = record { own = has.own; begun = has.begun };
      whole =
          ap (λ (own : Seat). map flight_place (carrier_of own.0 t.past)) (sym has.own)
          ∙ (ap (λ (x : History). map flight_place (carrier_of (c.seat).0 x.past)) made
          ∙ whole_made seat ws s (starts_land_none ws starts) between.landed c (subst (λ (x : History). HasLifts seen tells x seat ws c) made has));
      alone =
          ap (λ (x : History). of_others seat.0 (open_flights x.past)) made
          ∙ none_of_others seat (open_flights (added_each seat ws s).past) (only_own seat ws s (starts_land_none ws starts) between.landed);
    }
