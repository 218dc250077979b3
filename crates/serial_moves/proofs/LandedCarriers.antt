-- Where the policy goes on after a carrier has landed, in the words of the code.
use Rattle.std.proofs.Common.{◌≡◌, Bool, true, false, List, [], Result, IfOk, map, sym, ap, ◌∙◌, subst}
use Rattle.std.proofs.lemmas.Result.{IfOk-weaker}
use Rattle.vm_types.specs.BlockView.{BlockView, Tells}
use Rattle.vm_types.specs.declared.faults.NoMemory.{NoMemory}
use Rattle.vm_types.specs.declared.names.Seat.{Seat}
use Rattle.vm_journal.specs.declared.entry.Entry.{Entry}
use Rattle.pager_model.specs.Flights.{open_flights, carrier_of}
use Rattle.pager_policy.specs.Moves.{Control as ControlIs}
use Rattle.pager_policy.specs.Policy.{Ends as EndsIs, ends_part, ends_request, unless_all_failed, unless_first_failed}
use Rattle.pager_model.specs.Run.{IsRun}
use Rattle.call_begins.specs.Lifted.{HasBegunLifts, place_of}
use Rattle.call_begins.specs.MayBegin.{empty}
use Rattle.carried_landings.specs.HaveLanded.{HaveLanded}
use Rattle.carried_landings.specs.SeatFlights.{flight_place, of_others}
use Rattle.carried_landings.specs.declared.carrier_landed.CarrierLanded.{CarrierLanded}
use Rattle.serial_laws.specs.Laws.{IsRefusedLegally}
use Rattle.lift_carriers.specs.CarrierView.{CarrierView}
use Rattle.vm_state.specs.History.{History}
use Rattle.carried_landings.specs.CarriedOn.{IsCarriedOn, IsLoaded, IsRefusedThere, MayRefuse}
use Rattle.carried_landings.specs.Moved.{IsSameBut}
use Rattle.carried_landings.proofs.CarriersLand.{all_of_part, all_of_request, first_too, goes_there, legal_there, not_all, not_first, refused_on}
use Rattle.serial_moves.specs.Controls.{control_in, ends_in}
use Rattle.serial_moves.specs.declared.control.Control.{Control}

-- ---- what the landing asks for, and what it leaves
module _ {B : Type 0} {seen : B → BlockView} {tells : Tells} (s : History) (seat : Seat) (old : CarrierView B)
    (loaded : IsLoaded seen tells s seat old) where
  pub own_lifts : HasBegunLifts seen tells s old.seat old
  own_lifts = subst (λ (x : Seat). HasBegunLifts seen tells s x old) (sym loaded.lifts.own) loaded.lifts

  pub own_whole : map flight_place (carrier_of (old.seat).0 s.past) ≡ map place_of old.lifts
  own_whole = ap (λ (x : Seat). map flight_place (carrier_of x.0 s.past)) loaded.lifts.own ∙ loaded.whole

  pub none_open : (more : List Entry) → open_flights more ≡ of_others (old.seat).0 (open_flights s.past) → open_flights more ≡ []
  none_open more others = others ∙ (ap (λ (x : Seat). of_others x.0 (open_flights s.past)) loaded.lifts.own ∙ loaded.alone)

  pub emptied : (new : CarrierView B) → new ≡ record old { lifts = [] } → new ≡ empty seat
  emptied new is = is ∙ (λ i. record { seat = loaded.lifts.own i; lifts = [] })

  pub landed_here : (more : List Entry) (answer : CarrierLanded) → HaveLanded s.config (old.seat).0 s.past more answer → HaveLanded s.config seat.0 s.past more answer
  landed_here more answer landed = subst (λ (x : Seat). HaveLanded s.config x.0 s.past more answer) loaded.lifts.own landed

-- ---- where the policy goes on
module _ (s t : History) (seat : Seat) (answer : CarrierLanded) (landed : HaveLanded s.config seat.0 s.past t.past answer) (same : IsSameBut s t) (tells : Bool) (next : Control) where
  -- the carrier of a part of the work, or of a request
  pub some_landed : answer.all_failed ≡ false → IsCarriedOn tells s t seat.0 (unless_all_failed (ends_in next.doing) (control_in next)) (control_in next)
  some_landed is = goes_there s t seat answer landed same tells (unless_all_failed (ends_in next.doing) (control_in next)) (control_in next) (not_all s t seat answer landed same (ends_in next.doing) (control_in next) is)

  pub part_failed : (other : ControlIs) → ends_in next.doing ≡ ends_part other → answer.all_failed ≡ true → IsCarriedOn tells s t seat.0 (unless_all_failed (ends_in next.doing) (control_in next)) other
  part_failed other part is =
      subst (λ (x : EndsIs). IsCarriedOn tells s t seat.0 (unless_all_failed x (control_in next)) other) (sym part)
      (goes_there s t seat answer landed same tells (unless_all_failed (ends_part other) (control_in next)) other (all_of_part s t seat answer landed same other (control_in next) is))

  pub request_failed : (after : History) (result : Result Control NoMemory) → ends_in next.doing ≡ ends_request → answer.all_failed ≡ true → IfOk result (λ (c : Control). IsRefusedThere tells t after (control_in c))
      → IfOk result (λ (c : Control). IsCarriedOn tells s after seat.0 (unless_all_failed (ends_in next.doing) (control_in next)) (control_in c))
  request_failed after result request is refused =
      subst (λ (x : EndsIs). IfOk result (λ (c : Control). IsCarriedOn tells s after seat.0 (unless_all_failed x (control_in next)) (control_in c))) (sym request)
      (IfOk-weaker result (λ (c : Control). IsRefusedThere tells t after (control_in c)) (λ (c : Control). IsCarriedOn tells s after seat.0 (unless_all_failed ends_request (control_in next)) (control_in c))
      (λ c there. refused_on s t seat answer landed same tells (unless_all_failed ends_request (control_in next)) after (control_in c) (all_of_request s t seat answer landed same (control_in next) is) there) refused)

  pub request_legal : ends_in next.doing ≡ ends_request → answer.all_failed ≡ true → MayRefuse s.config s.past seat.0 (unless_all_failed (ends_in next.doing) (control_in next)) → IsRun t.config t.past → IsRefusedLegally t.config t.past seat.0
  request_legal request is may run =
      legal_there s t seat answer landed same (unless_all_failed ends_request (control_in next))
      (subst (λ (x : EndsIs). MayRefuse s.config s.past seat.0 (unless_all_failed x (control_in next))) request may) run
      (all_of_request s t seat answer landed same (control_in next) is)

  -- the reads of a reference
  pub first_landed : answer.first_failed ≡ false → IsCarriedOn tells s t seat.0 (unless_first_failed (control_in next)) (control_in next)
  first_landed is = goes_there s t seat answer landed same tells (unless_first_failed (control_in next)) (control_in next) (not_first s t seat answer landed same (control_in next) is)

  pub first_lost : (after : History) (result : Result Control NoMemory) → answer.first_failed ≡ true → IfOk result (λ (c : Control). IsRefusedThere tells t after (control_in c))
      → IfOk result (λ (c : Control). IsCarriedOn tells s after seat.0 (unless_first_failed (control_in next)) (control_in c))
  first_lost after result is refused =
      IfOk-weaker result (λ (c : Control). IsRefusedThere tells t after (control_in c)) (λ (c : Control). IsCarriedOn tells s after seat.0 (unless_first_failed (control_in next)) (control_in c))
      (λ c there. refused_on s t seat answer landed same tells (unless_first_failed (control_in next)) after (control_in c) (first_too s t seat answer landed same (control_in next) is) there) refused

  pub first_legal : answer.first_failed ≡ true → MayRefuse s.config s.past seat.0 (unless_first_failed (control_in next)) → IsRun t.config t.past → IsRefusedLegally t.config t.past seat.0
  first_legal is may run = legal_there s t seat answer landed same (unless_first_failed (control_in next)) may run (first_too s t seat answer landed same (control_in next) is)
