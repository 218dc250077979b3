-- Where the policy goes on after a carrier has landed.
use Rattle.std.proofs.Common.{◌≡◌, Bool, true, false, cond, List, refl, sym, ap, ◌∙◌, subst}
use Rattle.vm_types.specs.declared.config.Config.{Config}
use Rattle.vm_types.specs.declared.names.Seat.{Seat}
use Rattle.vm_journal.specs.declared.entry.Entry.{Entry}
use Rattle.pager_policy.specs.Given.{unsaid}
use Rattle.pager_policy.specs.Landings.{all_bad, first_bad, landed_by}
use Rattle.pager_model.specs.Flights.{carrier_of}
use Rattle.pager_policy.specs.Moves.{After, Control as ControlIs, goes, refuses}
use Rattle.pager_policy.specs.Policy.{Ends, ends_part, ends_request, failing, next_task, unless_all_failed, unless_first_failed}
use Rattle.pager_model.specs.Run.{IsRun}
use Rattle.pager_policy.specs.Serial.{GoesOn, IsRefused}
use Rattle.pager_model.specs.Spoken.{IsRight}
use Rattle.carried_landings.specs.HaveLanded.{HaveLanded}
use Rattle.carried_landings.specs.declared.carrier_landed.CarrierLanded.{CarrierLanded}
use Rattle.serial_laws.specs.Laws.{IsRefusedLegally}
use Rattle.vm_state.specs.History.{History}
use Rattle.carried_landings.specs.CarriedOn.{IsCarriedOn, IsRefusedThere, MayRefuse}
use Rattle.carried_landings.specs.Moved.{IsSameBut}
use Rattle.carried_landings.proofs.Moving.{same_then}
use Rattle.carried_landings.proofs.Mute.{landed_right}

module _ (s t : History) (seat : Seat) (answer : CarrierLanded) (landed : HaveLanded s.config seat.0 s.past t.past answer) (same : IsSameBut s t) where
  abbrev there : List Entry
  there = landed_by s.config seat.0 (carrier_of seat.0 s.past) landed.outcomes s.past

  config_is : t.config ≡ s.config
  config_is = ap (λ (x : History). x.config) same

  landed_stays : IsRight s.config s.past → IsRight t.config t.past
  landed_stays right = subst (λ (k : Config). IsRight k t.past) (sym config_is) (subst (IsRight s.config) (sym landed.landed) (landed_right s.config seat.0 (carrier_of seat.0 s.past) landed.outcomes s.past right))

  -- it goes on there
  pub goes_there : (tells : Bool) (onward : Bool → Bool → After) (next : ControlIs) → onward (all_bad landed.outcomes) (first_bad landed.outcomes) ≡ goes next → IsCarriedOn tells s t seat.0 onward next
  goes_there tells onward next is = record {
    heard = record { outcomes = landed.outcomes; reply = unsaid };
    carried = record { each = landed.each; on = subst (GoesOn s.config there t.past next) (sym is) (landed.landed, refl) };
    same = same;
    right = λ told right. landed_stays right;
  }

  -- or the request is refused
  pub refused_on : (tells : Bool) (onward : Bool → Bool → After) (after : History) (next : ControlIs) → onward (all_bad landed.outcomes) (first_bad landed.outcomes) ≡ refuses → IsRefusedThere tells t after next
      → IsCarriedOn tells s after seat.0 onward next
  refused_on tells onward after next is refused = record {
    heard = record { outcomes = landed.outcomes; reply = unsaid };
    carried = record {
      each = landed.each;
      on = subst (GoesOn s.config there after.past next) (sym is) refused_at;
    };
    same = same_then s t after same refused.same;
    right = λ told right. refused.right told (landed_stays right);
  }
    where
      refused_at : IsRefused there after.past next (next_task s.config there)
      refused_at =
          subst (λ (p : List Entry). IsRefused p after.past next (next_task s.config p)) landed.landed
          (subst (λ (k : Config). IsRefused t.past after.past next (next_task k t.past)) config_is refused.refused)

  pub legal_there : (onward : Bool → Bool → After) → MayRefuse s.config s.past seat.0 onward → IsRun t.config t.past → onward (all_bad landed.outcomes) (first_bad landed.outcomes) ≡ refuses → IsRefusedLegally t.config t.past seat.0
  legal_there onward may run is =
      subst (λ (k : Config). IsRefusedLegally k t.past seat.0) (sym config_is)
      (subst (λ (p : List Entry). IsRefusedLegally s.config p seat.0) (sym landed.landed)
      (may landed.outcomes landed.each (subst (IsRun s.config) landed.landed (subst (λ (k : Config). IsRun k t.past) config_is run)) is))

  -- ---- by what was answered
  pub not_all : (ends : Ends) (next : ControlIs) → answer.all_failed ≡ false → unless_all_failed ends next (all_bad landed.outcomes) (first_bad landed.outcomes) ≡ goes next
  not_all ends next is = ap (λ (b : Bool). cond b (failing ends) (goes next)) (sym landed.all_failed ∙ is)

  pub all_of_part : (c next : ControlIs) → answer.all_failed ≡ true → unless_all_failed (ends_part c) next (all_bad landed.outcomes) (first_bad landed.outcomes) ≡ goes c
  all_of_part c next is = ap (λ (b : Bool). cond b (failing (ends_part c)) (goes next)) (sym landed.all_failed ∙ is)

  pub all_of_request : (next : ControlIs) → answer.all_failed ≡ true → unless_all_failed ends_request next (all_bad landed.outcomes) (first_bad landed.outcomes) ≡ refuses
  all_of_request next is = ap (λ (b : Bool). cond b (failing ends_request) (goes next)) (sym landed.all_failed ∙ is)

  pub not_first : (next : ControlIs) → answer.first_failed ≡ false → unless_first_failed next (all_bad landed.outcomes) (first_bad landed.outcomes) ≡ goes next
  not_first next is = ap (λ (b : Bool). cond b refuses (goes next)) (sym landed.first_failed ∙ is)

  pub first_too : (next : ControlIs) → answer.first_failed ≡ true → unless_first_failed next (all_bad landed.outcomes) (first_bad landed.outcomes) ≡ refuses
  first_too next is = ap (λ (b : Bool). cond b refuses (goes next)) (sym landed.first_failed ∙ is)
