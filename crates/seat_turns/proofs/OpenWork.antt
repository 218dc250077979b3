-- What write clusters, swaps and turns leave of a seat that had nothing open.
use Rattle.std.proofs.Common.{◌≡◌, inr, ℕ, ◌<◌, Bool, true, false, List, [], ◌∷◌, Option, Some, length, refl, sym, ap, ◌∙◌, subst, arith}
use Rattle.std.proofs.lemmas.Bool.{false≢true}
use Rattle.std.specs.Option.{option_map}
use Rattle.vm_types.specs.BlockView.{BlockView, Tells}
use Rattle.vm_types.specs.Configuration.{IsWellFormed}
use Rattle.vm_types.specs.declared.names.Proc.{Proc}
use Rattle.vm_types.specs.declared.names.ProcStatus.{ProcStatus}
use Rattle.vm_types.specs.declared.names.ProcStatus.TheVariants as status
use Rattle.vm_types.specs.declared.names.Seat.{Seat}
use Rattle.vm_types.specs.declared.service.Request.{Request}
use Rattle.vm_types.specs.declared.service.Request.TheVariants as request
use Rattle.vm_types.specs.declared.service.Service.{Service}
use Rattle.vm_journal.specs.declared.entry.Entry.{Entry}
use Rattle.vm_journal.specs.declared.entry.What.{What}
use Rattle.vm_journal.specs.declared.entry.What.TheVariants as what
use Rattle.pager_model.specs.Flights.{is_busy, open_flights}
use Rattle.pager_model.specs.Run.{IsRun}
use Rattle.pager_model.specs.Step.{IsLegal}
use Rattle.pager_policy.specs.Swap.{GivenSwap, SwapIs, swap_again, swap_carry, swap_more, swap_settled, victim_gives}
use Rattle.pager_model.specs.Transfers.{has_come}
use Rattle.pager_policy.specs.WriteCluster.{BeginIs, Reason, begin_carry, begin_gives, begin_nothing}
use Rattle.call_laws.specs.Laws.{VictimIsTurned}
use Rattle.call_laws.specs.Ready.{MayWork}
use Rattle.call_laws.proofs.FreeTurn.{free_turn}
use Rattle.lift_carriers.specs.CarrierView.{CarrierView}
use Rattle.vm_state.specs.History.{History, MayAdd, added, entry_by, pager}
use Rattle.vm_state.specs.LiftsLand.{added_each}
use Rattle.call_begins.proofs.Steps.{paid_after}
use Rattle.call_begins.specs.MayBegin.{empty}
use Rattle.modified_writer.specs.Begins.{Begins, begin_of}
use Rattle.modified_writer.specs.declared.begun.Begin.{Begin}
use Rattle.modified_writer.specs.declared.begun.Begin.TheVariants.{Nothing}
use Rattle.vm_swapper.specs.Swaps.{IsCarrying, Swaps, returned}
use Rattle.vm_swapper.specs.Victims.{process_number}
use Rattle.vm_swapper.specs.declared.swap.Swap.{Swap}
use Rattle.vm_swapper.specs.declared.swap.Swap.TheVariants.{Again, Carry, More, Room, Settled}
use Rattle.vm_swapper.specs.declared.swap.SwapWhy.{SwapWhy}
use Rattle.carried_landings.proofs.Shapes.{AreQuiet, AreStarts, BeginShape, SwapShape, begin_shape}
use Rattle.carried_landings.proofs.WrittenClusters.{begin_starts, begun_lifts}
use Rattle.seat_laws.specs.FreeSeat.{IsFreeSeat}
use Rattle.seat_laws.proofs.FreeSeats.{none_are_still, not_busy, quiet_are_still}
use Rattle.seat_turns.specs.Begun.{CarriesFor, IsBegunFor, IsNoFault}
use Rattle.seat_turns.specs.Steps.{HasTurned, is_reads, turned_by}
use Rattle.seat_turns.specs.Worked.{HasTried, HasWorked, MayStart}
use Rattle.seat_turns.specs.declared.turned.Turned.TheVariants.{Waits}
use Rattle.seat_turns.proofs.NoFaults.{BeginNoFaults, begin_no_faults}
use Rattle.seat_turns.proofs.Unspoken.{none_unspoken, quiet_unspoken}
use Rattle.seat_turns.proofs.Worked.{nothing_made, starts_worked, still_worked, waits_turned, worked_turned}

-- ---- a write cluster
begin_none : (x : BeginIs) (made : List What) → Nothing ≡ begin_of x → BeginShape x made → made ≡ []
begin_none begin_nothing made is shape = shape
begin_none begin_carry made is shape = absurd (cc)

module _ {B : Type 0} {seen : B → BlockView} {tells : Tells} (s t : History) (seat : Seat) (free : IsFreeSeat s seat) (reason : Reason) (old new : CarrierView B) (is : old ≡ empty seat) where
  pub begin_worked : (begin : Begin) → Begins seen tells s t seat (begin_gives s.config (pager s) reason) begin old new → HasWorked seen tells s t seat new
  begin_worked begin begins =
      starts_worked s t seat free (begin_gives s.config (pager s) reason).made begins.history (begin_starts s reason) new
      (begun_lifts s t seat reason begin old new is begins) (begin_no_faults s.config (pager s) reason)

  pub nothing_begun : Begins seen tells s t seat (begin_gives s.config (pager s) reason) Nothing old new → (t ≡ s) × (new ≡ old)
  nothing_begun begins = (
    nothing_made s t seat (begin_gives s.config (pager s) reason).made begins.history
        (begin_none (begin_gives s.config (pager s) reason).answer (begin_gives s.config (pager s) reason).made begins.answer (begin_shape s.config (pager s) reason)),
    begins.carrier,
  )

-- ---- a step of a process that leaves or comes
as_before : {B : Type 0} (seen : B → BlockView) (tells : Tells) (t : History) (seat : Seat) (old new : CarrierView B) (made : List What) (swap : Swap) → (swap ≡ Carry → ⊥) → IsCarrying seen tells t seat made swap old new → new ≡ old
as_before {B} seen tells t seat old new made Carry other carrying = absurd (other refl)
as_before {B} seen tells t seat old new made More other carrying = carrying
as_before {B} seen tells t seat old new made Settled other carrying = carrying
as_before {B} seen tells t seat old new made (Again why) other carrying = carrying
as_before {B} seen tells t seat old new made Room other carrying = carrying

starts_of : (made : List What) (x : SwapIs) → Carry ≡ returned x → SwapShape x made → AreStarts made
starts_of made swap_carry same its = its
starts_of made swap_more same its = absurd (cc)
starts_of made swap_settled same its = absurd (cc)
starts_of made (swap_again reason) same its = absurd (cc)

none_of : (made : List What) (why : SwapWhy) (x : SwapIs) → Again why ≡ returned x → SwapShape x made → made ≡ []
none_of made why swap_carry same its = absurd (cc)
none_of made why swap_more same its = absurd (cc)
none_of made why swap_settled same its = absurd (cc)
none_of made why (swap_again reason) same its = its

module _ {B : Type 0} {seen : B → BlockView} {tells : Tells} (s t : History) (seat : Seat) (free : IsFreeSeat s seat) (old new : CarrierView B) (is : old ≡ empty seat) where
  quiet_worked : (ws : List What) → t ≡ added_each seat ws s → AreQuiet ws → new ≡ old → HasWorked seen tells s t seat new
  quiet_worked ws history quiet kept = still_worked s t seat free ws history (quiet_are_still ws quiet) (quiet_unspoken ws quiet) new (kept ∙ is)

  none_worked : (ws : List What) → t ≡ added_each seat ws s → ws ≡ [] → new ≡ old → HasWorked seen tells s t seat new
  none_worked ws history none kept = still_worked s t seat free ws history (none_are_still ws none) (none_unspoken ws none) new (kept ∙ is)

  module _ (g : GivenSwap) (shape : SwapShape g.answer g.made) (none : BeginNoFaults g.made) where
    quiet_of : (swap : Swap) (x : SwapIs) → (swap ≡ Carry → ⊥) → swap ≡ returned x → SwapShape x g.made → t ≡ added_each seat g.made s → new ≡ old → HasWorked seen tells s t seat new
    quiet_of swap swap_carry other same its history kept = absurd (other same)
    quiet_of swap swap_more other same its history kept = quiet_worked g.made history its kept
    quiet_of swap swap_settled other same its history kept = quiet_worked g.made history its kept
    quiet_of swap (swap_again reason) other same its history kept = none_worked g.made history its kept

    others_worked : (swap : Swap) → (swap ≡ Carry → ⊥) → Swaps seen tells s t seat g swap old new → HasWorked seen tells s t seat new
    others_worked swap other swaps = quiet_of swap g.answer other swaps.answer shape swaps.history (as_before seen tells t seat old new g.made swap other swaps.carrier)

    pub swap_worked : (swap : Swap) → Swaps seen tells s t seat g swap old new → HasWorked seen tells s t seat new
    swap_worked Carry swaps = starts_worked s t seat free g.made swaps.history (starts_of g.made g.answer swaps.answer shape) new swaps.carrier none
    swap_worked More swaps = others_worked More (λ same. cc) swaps
    swap_worked Settled swaps = others_worked Settled (λ same. cc) swaps
    swap_worked (Again why) swaps = others_worked (Again why) (λ same. cc) swaps
    swap_worked Room swaps = others_worked Room (λ same. cc) swaps

    pub again_swapped : (why : SwapWhy) → Swaps seen tells s t seat g (Again why) old new → (t ≡ s) × (new ≡ old)
    again_swapped why swaps = (nothing_made s t seat g.made swaps.history (none_of g.made why g.answer swaps.answer shape), swaps.carrier)

-- ---- nothing was done before
pub worked_after : {B : Type 0} {seen : B → BlockView} {tells : Tells} (s u t : History) (seat : Seat) (c : CarrierView B) → u ≡ s → HasWorked seen tells u t seat c → HasWorked seen tells s t seat c
worked_after {B} {seen} {tells} s u t seat c same worked = subst (λ (x : History). HasWorked seen tells x t seat c) same worked

pub nothing_worked : {B : Type 0} {seen : B → BlockView} {tells : Tells} (s : History) (seat : Seat) → IsFreeSeat s seat → (c : CarrierView B) → c ≡ empty seat → HasWorked seen tells s s seat c
nothing_worked s seat free c is = still_worked s s seat free [] refl tt tt c is

-- ---- by an empty carrier's own seat
pub may_start : {B : Type 0} (s : History) (seat : Seat) (c : CarrierView B) → IsFreeSeat s seat → c ≡ empty seat → MayStart s c
may_start {B} s seat c free is = record { free = subst (λ (x : Seat). IsFreeSeat s x) (sym own) free; carrier = is ∙ ap empty (sym own) }
  where
    own : c.seat ≡ seat
    own = ap (λ (x : CarrierView B). x.seat) is

pub starts_again : {B : Type 0} (s t : History) (c d : CarrierView B) → t ≡ s → d ≡ c → MayStart s c → MayStart t d
starts_again {B} s t c d same kept start = subst (λ (x : CarrierView B). MayStart t x) (sym kept) (subst (λ (u : History). MayStart u c) (sym same) start)

module _ {B : Type 0} (s : History) (c : CarrierView B) (start : MayStart s c) (seat : Seat) (is : seat ≡ c.seat) where
  pub free_at : IsFreeSeat s seat
  free_at = subst (λ (x : Seat). IsFreeSeat s x) (sym is) start.free

  pub empty_at : c ≡ empty seat
  empty_at = start.carrier ∙ ap empty (sym is)

module _ {B : Type 0} {seen : B → BlockView} {tells : Tells} (s : History) (c : CarrierView B) (start : MayStart s c) where
  pub nothing_tried : (some : Bool) → HasTried seen tells s s c c some
  nothing_tried some = record { worked = nothing_worked s c.seat start.free c start.carrier; none = λ no. (refl, refl) }

  module _ (seat : Seat) (is : seat ≡ c.seat) (t : History) where
    tried : (d : CarrierView B) (some : Bool) → HasWorked seen tells s t seat d → (some ≡ false → (t ≡ s) × (d ≡ c)) → HasTried seen tells s t c d some
    tried d some worked none = record { worked = subst (λ (x : Seat). HasWorked seen tells s t x d) is worked; none = none }

    some_tried : (d : CarrierView B) → HasWorked seen tells s t seat d → HasTried seen tells s t c d true
    some_tried d worked = tried d true worked (λ no. absurd (false≢true (sym no)))

    pub turn_tried : (some : Bool) → HasWorked seen tells s t seat (empty {B = B} seat) → (some ≡ false → t ≡ s) → HasTried seen tells s t c c some
    turn_tried some worked none = tried c some (subst (λ (x : CarrierView B). HasWorked seen tells s t seat x) (sym (empty_at s c start seat is)) worked) (λ no. (none no, refl))

    module _ (reason : Reason) (d : CarrierView B) where
      pub begin_tried : (begin : Begin) → Begins seen tells s t seat (begin_gives s.config (pager s) reason) begin c d → HasTried seen tells s t c d true
      begin_tried begin begins = some_tried d (begin_worked s t seat (free_at s c start seat is) reason c d (empty_at s c start seat is) begin begins)

      pub begin_none_tried : Begins seen tells s t seat (begin_gives s.config (pager s) reason) Nothing c d → HasTried seen tells s t c d false
      begin_none_tried begins =
          tried d false (begin_worked s t seat (free_at s c start seat is) reason c d (empty_at s c start seat is) Nothing begins)
          (λ no. nothing_begun s t seat (free_at s c start seat is) reason c d (empty_at s c start seat is) begins)

    module _ (d : CarrierView B) (g : GivenSwap) (shape : SwapShape g.answer g.made) (none : BeginNoFaults g.made) where
      pub swap_tried : (swap : Swap) → Swaps seen tells s t seat g swap c d → HasTried seen tells s t c d true
      swap_tried swap swaps = some_tried d (swap_worked s t seat (free_at s c start seat is) c d (empty_at s c start seat is) g shape none swap swaps)

      pub same_swapped : (why : SwapWhy) → Swaps seen tells s t seat g (Again why) c d → (t ≡ s) × (d ≡ c)
      same_swapped why swaps = again_swapped s t seat (free_at s c start seat is) c d (empty_at s c start seat is) g shape none why swaps

      pub swap_none_tried : (why : SwapWhy) → Swaps seen tells s t seat g (Again why) c d → HasTried seen tells s t c d false
      swap_none_tried why swaps =
          tried d false (swap_worked s t seat (free_at s c start seat is) c d (empty_at s c start seat is) g shape none (Again why) swaps) (λ no. same_swapped why swaps)

module _ {B : Type 0} {seen : B → BlockView} {tells : Tells} where
  pub tried_after : (s u t : History) (c e d : CarrierView B) (some : Bool) → (u ≡ s) × (e ≡ c) → HasTried seen tells u t e d some → HasTried seen tells s t c d some
  tried_after s u t c e d some same has = subst (λ (x : CarrierView B). HasTried seen tells s t x d some) same.1 (subst (λ (x : History). HasTried seen tells x t e d some) same.0 has)

  pub worked_at : (u t : History) (seat : Seat) (c d : CarrierView B) (some : Bool) → c ≡ empty seat → HasTried seen tells u t c d some → HasWorked seen tells u t seat d
  worked_at u t seat c d some is has = subst (λ (x : Seat). HasWorked seen tells u t x d) (ap (λ (x : CarrierView B). x.seat) is) has.worked

-- ---- turns of a status
module _ (s : History) (seat : Seat) (free : IsFreeSeat s seat) (formed : IsWellFormed s.config) (run : IsRun s.config s.past) where
  pub may_work : MayWork s.config s.past seat.0
  may_work = record { formed = formed; run = run; free = record { idle = not_busy seat.0 s.past free.free; calm = free.calm }; seat_there = (let there = free.there in omega (arith, there)) }

  turn_paid : (q : Proc) (x : ProcStatus) → IsLegal s.config s.past (pager s) (entry_by seat (what.Turn q x)) → MayAdd s (entry_by seat (what.Turn q x))
  turn_paid q x legal = record { legal = legal; paid = paid_after s.past (entry_by seat (what.Turn q x)) s.spare 1 refl refl (let room = free.room in omega (arith, room)) }

  pub may_turn_victim : (but : Option Proc) (q : Proc) → VictimIsTurned → option_map process_number (Some q) ≡ victim_gives s.config s.past (pager s) (option_map process_number but) → MayAdd s (entry_by seat (what.Turn q status.Leaving))
  may_turn_victim but q law chosen = turn_paid q status.Leaving (law s.config s.past seat.0 (option_map process_number but) q.0 may_work (sym chosen))

  -- one that comes, and for which no transfer is open
  pub may_turn_comer : (q : Proc) → q.0 < length s.config.procs → (pager s).status q.0 ≡ status.Coming → is_busy q.0 (open_flights s.past) ≡ false → has_come q.0 (open_flights s.past) ≡ false → MayAdd s (entry_by seat (what.Turn q status.Leaving))
  may_turn_comer q process coming idle no_come = turn_paid q status.Leaving (record {
    in_turn = free_turn s.config s.past seat.0 (what.Turn q status.Leaving) (record { idle = not_busy seat.0 s.past free.free; calm = free.calm });
    line = record { seat = (let there = free.there in omega (arith, there)); what = process };
    row = record { process = process; turned = record { was = inr coming; idle = idle; no_come = no_come } };
  })

  pub may_turn_gone : (p : Proc) → IsLegal s.config s.past (pager s) (entry_by seat (what.Turn p status.Coming)) → MayAdd s (entry_by seat (what.Turn p status.Coming))
  may_turn_gone p legal = turn_paid p status.Coming legal

pub turn_worked : {B : Type 0} {seen : B → BlockView} {tells : Tells} (s t : History) (seat : Seat) → IsFreeSeat s seat → (q : Proc) (x : ProcStatus) → t ≡ added s (entry_by seat (what.Turn q x)) → HasWorked seen tells s t seat (empty {B = B} seat)
turn_worked s t seat free q x made = still_worked s t seat free (what.Turn q x ∷ []) made (tt, tt) (refl, tt) (empty seat) refl

-- ---- how the turn went
begun_for : (past : List Entry) (seat : ℕ) (x : Request) → CarriesFor past seat IsNoFault → IsBegunFor past seat x false
begun_for past seat (request.Reference r) begun = begun
begun_for past seat (request.Service v) begun = begun

module _ {B : Type 0} {seen : B → BlockView} {tells : Tells} (s u t : History) (seat : Seat) (free : IsFreeSeat s seat) (running : s.halted ≡ false) (same : u ≡ s) (some : Bool) (old new : CarrierView B) (is : old ≡ empty seat)
    (worked : HasWorked seen tells u t seat new) (none : some ≡ false → (t ≡ u) × (new ≡ old)) where
  here : HasWorked seen tells s t seat new
  here = worked_after s u t seat new same worked

  pub ended_turned : (x : Option Request) → HasTurned seen tells s t seat x (turned_by some) new
  ended_turned x = by some refl
    where
      by : (b : Bool) → some ≡ b → HasTurned seen tells s t seat x (turned_by b) new
      by true is_some = worked_turned s t seat free running x new here
      by false is_none = let still = none is_none in waits_turned s t seat free running (still.0 ∙ same) x Waits new (still.1 ∙ is) tt refl tt

  pub ended_begun : (x : Request) → (new.lifts ≡ [] → ⊥) → IsBegunFor t.past seat.0 x (is_reads (turned_by some))
  ended_begun x lifts = by some
    where
      by : (b : Bool) → IsBegunFor t.past seat.0 x (is_reads (turned_by b))
      by true = begun_for t.past seat.0 x (here.begun lifts)
      by false = begun_for t.past seat.0 x (here.begun lifts)

-- of a service
pub ended_begun_service : {B : Type 0} {seen : B → BlockView} {tells : Tells} (s u t : History) (seat : Seat) → u ≡ s → (new : CarrierView B) → HasWorked seen tells u t seat new → (x : Service) → (new.lifts ≡ [] → ⊥) → IsBegunFor t.past seat.0 (request.Service x) false
ended_begun_service s u t seat same new worked x lifts = begun_for t.past seat.0 (request.Service x) (worked.begun lifts)
