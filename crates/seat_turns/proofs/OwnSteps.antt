-- Steps of a process's own seat, for a request that waits for it.
use Rattle.std.proofs.Common.{◌≡◌, inl, inr, ◌⊎◌, ℕ, Bool, true, false, List, [], Option, Some, None, map, refl, sym, ap, ◌∙◌, subst}
use Rattle.std.proofs.lemmas.Bool.{false≢true}
use Rattle.vm_types.specs.BlockView.{BlockView, Tells}
use Rattle.vm_types.specs.declared.names.Proc.{Proc}
use Rattle.vm_types.specs.declared.names.ProcStatus.{ProcStatus}
use Rattle.vm_types.specs.declared.names.ProcStatus.TheVariants as status
use Rattle.vm_types.specs.declared.names.Seat.{Seat}
use Rattle.vm_types.specs.declared.reference.Ref.{Ref}
use Rattle.vm_types.specs.declared.service.Request.{Request}
use Rattle.vm_types.specs.declared.service.Request.TheVariants as request
use Rattle.vm_types.specs.declared.service.Service.{Service}
use Rattle.vm_journal.specs.declared.entry.What.TheVariants as what
use Rattle.pager_model.specs.Flights.{carrier_of, is_busy, open_flights}
use Rattle.pager_model.specs.Maps.{proc}
use Rattle.pager_model.specs.Transfers.{has_come}
use Rattle.pager_policy.specs.Landings.{Outcome, all_bad, first_bad}
use Rattle.pager_policy.specs.Policy.{coming_process}
use Rattle.pager_policy.specs.Swap.{come_gives, swap_again, swap_no_frame}
use Rattle.lift_carriers.specs.CarrierView.{CarrierView}
use Rattle.vm_state.specs.Based.{base_of}
use Rattle.vm_state.specs.History.{History, added, entry_by, pager}
use Rattle.vm_state.specs.LiftsLand.{added_each}
use Rattle.call_begins.specs.Lifted.{place_of}
use Rattle.call_begins.specs.MayBegin.{empty}
use Rattle.carried_landings.specs.Outside.{AreOut}
use Rattle.carried_landings.specs.SeatFlights.{flight_place}
use Rattle.seat_laws.specs.FreeSeat.{IsFreeSeat}
use Rattle.seat_laws.proofs.FreeSeats.{nothing_mapped}
use Rattle.seat_steps.specs.Steps.{IsStep, IsToLeave, bars, begins_to_come, comes}
use Rattle.seat_steps.specs.Turns.{HasFailed, HasStepped}
use Rattle.seat_steps.specs.Waits.{WaitsForFrame, WaitsForProcess}
use Rattle.seat_turns.specs.Steps.{seat_of}
use Rattle.seat_turns.specs.Stepping.{IsNeed, IsStepWhere, WaitsOwn}
use Rattle.seat_turns.specs.declared.asking.Need.{Need}
use Rattle.seat_turns.proofs.Stepped.{step_at, step_of, stepped_free}

-- ---- its process has to be resident
module _ (s : History) (seat : Seat) (p : Proc) (request : Option Request) (waits : WaitsOwn p WaitsForProcess s seat.0 request) where
  of_seat : (x : ProcStatus) → (pager s).status p.0 ≡ x → (pager s).status seat.0 ≡ x
  of_seat x is = subst (λ (n : ℕ). (pager s).status n ≡ x) waits.0 is

  -- it is leaving
  pub own_leaves : (pager s).status p.0 ≡ status.Leaving → IsToLeave s.config s.past seat.0 request p.0
  own_leaves leaving = record { leaving = leaving; why = inr (record { own = waits.0; works = waits.1 }) }

  -- it is gone
  pub barred_step : (t : History) (q : Proc) → (pager s).status p.0 ≡ status.Gone → Some q.0 ≡ coming_process s.config (pager s) → (pager s).status q.0 ≡ status.Coming
      → is_busy q.0 (open_flights s.past) ≡ false → has_come q.0 (open_flights s.past) ≡ false → t ≡ added s (entry_by seat (what.Turn q status.Leaving)) → IsStep s.config s.past t.past seat.0 request
  barred_step t q gone first coming idle no_come made =
      step_of s t seat request (bars q.0)
      (record { x = (waits.1).x; asks = (waits.1).asks; is = record { waits = (waits.1).is; gone = of_seat status.Gone gone; first = sym first; coming = coming; idle = idle; no_come = no_come } }) made

  pub begun_step : (t : History) → (pager s).status p.0 ≡ status.Gone → None ≡ coming_process s.config (pager s) → t ≡ added s (entry_by seat (what.Turn p status.Coming)) → IsStep s.config s.past t.past seat.0 request
  begun_step t gone none made =
      step_of s t seat request begins_to_come
      (record { x = (waits.1).x; asks = (waits.1).asks; is = record { waits = (waits.1).is; gone = of_seat status.Gone gone; none_coming = sym none } })
      (made ∙ ap (λ (n : ℕ). added s (entry_by seat (what.Turn (proc n) status.Coming))) waits.0)

  -- it is coming
  pub came_step : (t : History) (own : Seat) → own ≡ seat → (pager s).status p.0 ≡ status.Coming → t ≡ added_each own (come_gives s.config s.past (pager s) p.0).made s → IsStep s.config s.past t.past seat.0 request
  came_step t own is coming made =
      step_at s t own seat is request comes
      (record { x = (waits.1).x; asks = (waits.1).asks; is = record { waits = (waits.1).is; coming = of_seat status.Coming coming } })
      (made ∙ ap (λ (n : ℕ). added_each own (come_gives s.config s.past (pager s) n).made s) waits.0)

  pub waits_to_come : (pager s).status p.0 ≡ status.Coming → (come_gives s.config s.past (pager s) p.0).answer ≡ swap_again swap_no_frame → WaitsOwn p WaitsForFrame s seat.0 request
  waits_to_come coming none = (
    waits.0,
    record {
      x = (waits.1).x;
      asks = (waits.1).asks;
      is = inr (record {
        comes = record { waits = (waits.1).is; coming = of_seat status.Coming coming };
        no_frame = subst (λ (n : ℕ). (come_gives s.config s.past (pager s) n).answer ≡ swap_again swap_no_frame) waits.0 none;
      });
    },
  )

-- ---- what it needs is known
pub need_is : (s : History) (seat : ℕ) (request : Option Request) (p : Proc) (need known : Need) → need ≡ known → WaitsOwn p (IsNeed need) s seat request → WaitsOwn p (IsNeed known) s seat request
need_is s seat request p need known is waits = subst (λ (n : Need). WaitsOwn p (IsNeed n) s seat request) is waits

pub met_step : {B : Type 0} (s u t : History) (c : CarrierView B) (p : Proc) (need : Need) (x : Request) → u ≡ s → c ≡ empty (seat_of p) → IsStepWhere u t c.seat (WaitsOwn p (IsNeed need)) → IsNeed need s.config s.past p.0 x → IsStep s.config s.past t.past p.0 (Some x)
met_step {B} s u t c p need x same is step needs =
    subst (λ (v : History). IsStepWhere v t (seat_of p) (WaitsOwn p (IsNeed need))) same (subst (λ (d : CarrierView B). IsStepWhere u t d.seat (WaitsOwn p (IsNeed need))) is step) (Some x) (refl, record { x = x; asks = refl; is = needs })

-- ---- what was open failed
pub read_failed : (r : Ref) (own : Bool) (outcomes : List Outcome) → (all_bad outcomes ≡ true) ⊎ ((own ≡ true) × (first_bad outcomes ≡ true)) → HasFailed (request.Reference r) outcomes
read_failed r own outcomes (inl all) = inl all
read_failed r own outcomes (inr first) = inr first.1

pub service_failed : (x : Service) (outcomes : List Outcome) → (all_bad outcomes ≡ true) ⊎ ((false ≡ true) × (first_bad outcomes ≡ true)) → HasFailed (request.Service x) outcomes
service_failed x outcomes (inl all) = all
service_failed x outcomes (inr first) = absurd (false≢true first.0)

pub was_open : {B : Type 0} {seen : B → BlockView} {tells : Tells} (s : History) (seat : Seat) (c : CarrierView B) → AreOut seen tells (base_of s) s.past seat c → (c.lifts ≡ [] → ⊥) → carrier_of seat.0 s.past ≡ [] → ⊥
was_open s seat c out some none = some (nothing_mapped place_of c.lifts (sym out.whole ∙ ap (map flight_place) none))

-- ---- where nothing was open, whatever is spare
pub respared_stepped : (s v t : History) (seat : Seat) → v ≡ record s { spare = v.spare; halted = false } → (request : Option Request) → IsFreeSeat v seat → IsStep v.config v.past t.past seat.0 request → HasStepped s.config s.past t.past seat.0 request
respared_stepped s v t seat same request free step = subst (λ (x : History). HasStepped x.config x.past t.past seat.0 request) same (stepped_free v t seat request free step)
