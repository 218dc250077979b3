-- A service's step, a write cluster, a turn and a step of a leaving process leave their seat at work.
use Rattle.std.proofs.Common.{◌≡◌, ℕ, List, [], ◌∷◌, Some, None, refl, sym, ap, ◌∙◌, arith}
use Rattle.std.specs.Option.{option_map}
use Rattle.std.proofs.lemmas.Option.{none-some}
use Rattle.vm_types.specs.BlockView.{BlockView, Tells}
use Rattle.vm_types.specs.declared.names.Proc.{Proc}
use Rattle.vm_types.specs.declared.names.ProcStatus.TheVariants as status
use Rattle.vm_types.specs.declared.names.Seat.{Seat}
use Rattle.vm_types.specs.declared.service.Service.{Service}
use Rattle.vm_types.specs.Configuration.{IsWellFormed}
use Rattle.vm_journal.specs.declared.entry.What.{What}
use Rattle.vm_journal.specs.declared.entry.What.TheVariants as what
use Rattle.pager_model.specs.Run.{IsRun}
use Rattle.pager_policy.specs.Serve.{ServeIs, serve_again, serve_answered, serve_gives, serve_more}
use Rattle.pager_policy.specs.Swap.{SwapIs, leave_gives, swap_again, swap_carry, swap_more, swap_settled, victim_gives}
use Rattle.pager_policy.specs.WriteCluster.{Reason, begin_gives}
use Rattle.call_laws.specs.Laws.{VictimIsTurned}
use Rattle.call_begins.proofs.Steps.{paid_after}
use Rattle.modified_writer.specs.Begins.{Begins}
use Rattle.modified_writer.specs.declared.begun.Begin.{Begin}
use Rattle.carried_landings.proofs.Shapes.{AreStarts, ServeShape, SwapShape, leave_shape, serve_shape}
use Rattle.carried_landings.proofs.WrittenClusters.{begin_starts, begun_lifts}
use Rattle.vm_services.specs.Serves.{Serves}
use Rattle.vm_services.specs.declared.next.ServeNext.{ServeNext}
use Rattle.lift_carriers.specs.CarrierView.{CarrierView}
use Rattle.vm_state.specs.History.{History, MayAdd, added, entry_by, pager}
use Rattle.vm_swapper.specs.Swaps.{IsCarrying, Swaps, returned}
use Rattle.vm_swapper.specs.Victims.{process_number}
use Rattle.vm_swapper.specs.declared.swap.Swap.{Swap}
use Rattle.vm_swapper.specs.declared.swap.Swap.TheVariants.{Again, Carry, More, Room, Settled}
use Rattle.seat_laws.specs.FreeSeat.{IsFreeSeat}
use Rattle.seat_schedules.specs.AtWork.{HasWorked, idle}
use Rattle.seat_schedules.specs.declared.worker.Worker.{Worker}
use Rattle.seat_laws.proofs.FreeSeats.{AreStill, none_are_still, not_busy, quiet_are_still, served_are_still}
use Rattle.seat_schedules.proofs.OwnWork.{starts_worked, still_worked}

-- ---- a service
served_still : (x : ServeIs) (made : List What) → ServeShape x made → AreStill made
served_still serve_answered made shape = served_are_still made shape
served_still serve_more made shape = quiet_are_still made shape
served_still (serve_again reason) made shape = none_are_still made shape

-- ---- what a step of a leaving process makes
swap_starts : (x : SwapIs) (made : List What) → Carry ≡ returned x → SwapShape x made → AreStarts made
swap_starts swap_carry made same shape = shape
swap_starts swap_more made same shape = absurd (cc)
swap_starts swap_settled made same shape = absurd (cc)
swap_starts (swap_again reason) made same shape = absurd (cc)

swap_still : (swap : Swap) (x : SwapIs) (made : List What) → (swap ≡ Carry → ⊥) → swap ≡ returned x → SwapShape x made → AreStill made
swap_still swap swap_carry made other same shape = absurd (other same)
swap_still swap swap_more made other same shape = quiet_are_still made shape
swap_still swap swap_settled made other same shape = quiet_are_still made shape
swap_still swap (swap_again reason) made other same shape = none_are_still made shape

module _ {B : Type 0} (seen : B → BlockView) (tells : Tells) where
  as_before : (t : History) (seat : Seat) (made : List What) (swap : Swap) (old new : CarrierView B) → (swap ≡ Carry → ⊥) → IsCarrying seen tells t seat made swap old new → new ≡ old
  as_before t seat made Carry old new other carrying = absurd (other refl)
  as_before t seat made More old new other carrying = carrying
  as_before t seat made Settled old new other carrying = carrying
  as_before t seat made (Again why) old new other carrying = carrying
  as_before t seat made Room old new other carrying = carrying

module _ {B : Type 0} {seen : B → BlockView} {tells : Tells} where
  pub service_worked : (s t : History) (seat : Seat) (x : Service) (next : ServeNext) → IsFreeSeat s seat → Serves s t seat (serve_gives s.config s.past (pager s) seat.0 x) next → HasWorked seen tells s t seat (idle {B = B} seat)
  service_worked s t seat x next free serves =
      let g = serve_gives s.config s.past (pager s) seat.0 x in
      still_worked s seat free t g.made serves.history (served_still g.answer g.made (serve_shape s.config s.past (pager s) seat.0 x)) (idle seat) refl

  -- ---- a write cluster
  pub write_worked : (s t : History) (seat : Seat) (reason : Reason) (begin : Begin) (w : Worker B) (new : CarrierView B) → IsFreeSeat s seat → w ≡ idle seat
      → Begins seen tells s t seat (begin_gives s.config (pager s) reason) begin w.carrier new
      → HasWorked seen tells s t seat (record w { carrier = new })
  write_worked s t seat reason begin w new free is begins =
      let made = (begin_gives s.config (pager s) reason).made in
      starts_worked s seat free t made begins.history (begin_starts s reason) (record w { carrier = new })
      (begun_lifts s t seat reason begin w.carrier new (ap (λ (x : Worker B). x.carrier) is) begins)
      (λ r some. absurd (none-some r (sym (ap (λ (x : Worker B). x.reference) is) ∙ some))) (λ r some. absurd (none-some r (sym (ap (λ (x : Worker B). x.reference) is) ∙ some)))

  -- ---- a step of a leaving process
  leave_stays : (s t : History) (seat : Seat) (p : ℕ) (swap : Swap) (w : Worker B) (new : CarrierView B) → (swap ≡ Carry → ⊥) → IsFreeSeat s seat → w ≡ idle seat
      → Swaps seen tells s t seat (leave_gives s.config s.past (pager s) p) swap w.carrier new
      → HasWorked seen tells s t seat (record w { carrier = new })
  leave_stays s t seat p swap w new other free is swaps =
      let g = leave_gives s.config s.past (pager s) p in
      still_worked s seat free t g.made swaps.history (swap_still swap g.answer g.made other swaps.answer (leave_shape s.config s.past (pager s) p)) (record w { carrier = new })
      (ap (λ (c : CarrierView B). record w { carrier = c }) (as_before seen tells t seat g.made swap w.carrier new other swaps.carrier) ∙ is)

  pub leave_worked : (s t : History) (seat : Seat) (p : ℕ) (swap : Swap) (w : Worker B) (new : CarrierView B) → IsFreeSeat s seat → w ≡ idle seat
      → Swaps seen tells s t seat (leave_gives s.config s.past (pager s) p) swap w.carrier new
      → HasWorked seen tells s t seat (record w { carrier = new })
  leave_worked s t seat p Carry w new free is swaps =
      let g = leave_gives s.config s.past (pager s) p in
      starts_worked s seat free t g.made swaps.history (swap_starts g.answer g.made swaps.answer (leave_shape s.config s.past (pager s) p)) (record w { carrier = new }) swaps.carrier
      (λ r some. absurd (none-some r (sym (ap (λ (x : Worker B). x.reference) is) ∙ some))) (λ r some. absurd (none-some r (sym (ap (λ (x : Worker B). x.reference) is) ∙ some)))
  leave_worked s t seat p More w new free is swaps = leave_stays s t seat p More w new (λ same. cc) free is swaps
  leave_worked s t seat p Settled w new free is swaps = leave_stays s t seat p Settled w new (λ same. cc) free is swaps
  leave_worked s t seat p (Again why) w new free is swaps = leave_stays s t seat p (Again why) w new (λ same. cc) free is swaps
  leave_worked s t seat p Room w new free is swaps = leave_stays s t seat p Room w new (λ same. cc) free is swaps

  -- ---- a turn
  pub turn_worked : (s t : History) (seat : Seat) (q : Proc) → IsFreeSeat s seat → t ≡ added s (entry_by seat (what.Turn q status.Leaving)) → HasWorked seen tells s t seat (idle {B = B} seat)
  turn_worked s t seat q free made = still_worked s seat free t (what.Turn q status.Leaving ∷ []) made (tt, tt) (idle seat) refl

pub may_turn : (s : History) (seat : Seat) (q : Proc) → VictimIsTurned → IsFreeSeat s seat → IsWellFormed s.config → IsRun s.config s.past → option_map process_number (Some q) ≡ victim_gives s.config s.past (pager s) None
    → MayAdd s (entry_by seat (what.Turn q status.Leaving))
may_turn s seat q law free formed run chosen = record {
  legal =
      law s.config s.past seat.0 None q.0
      (record { formed = formed; run = run; free = record { idle = not_busy seat.0 s.past free.free; calm = free.calm }; seat_there = (let there = free.there in omega (arith, there)) })
      (sym chosen);
  paid = paid_after s.past (entry_by seat (what.Turn q status.Leaving)) s.spare 1 refl refl (let room = free.room in omega (arith, room));
}
