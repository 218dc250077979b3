-- A request whose transfers were lost may be refused, and what its refusal leaves.
use Rattle.std.proofs.Common.{◌≡◌, inl, inr, ◌⊎◌, ℕ, ◌*◌, ◌<◌, Bool, true, false, List, [], ◌∷◌, Some, length, refl, sym, ap, ◌∙◌, subst, arith}
use Rattle.std.proofs.lemmas.Bool.{true≢false}
use Rattle.std.proofs.lemmas.Option.{same_Some}
use Rattle.vm_types.specs.declared.limits.TheConstants.{PAGE_BYTES}
use Rattle.vm_types.specs.BlockView.{BlockView, Tells}
use Rattle.vm_types.specs.WellFormed.{IsServiceOf, IsWellFormedReference, IsWellFormedService}
use Rattle.vm_types.specs.declared.names.Addr.{Addr}
use Rattle.vm_types.specs.declared.names.Proc.{Proc}
use Rattle.vm_types.specs.declared.names.ProcStatus.TheVariants as status
use Rattle.vm_types.specs.declared.names.Seat.{Seat}
use Rattle.vm_types.specs.declared.reference.Ref.{Ref}
use Rattle.vm_types.specs.declared.reply.Answer.TheVariants as answer
use Rattle.vm_types.specs.declared.reply.Why.TheVariants as why
use Rattle.vm_types.specs.declared.service.Request.{Request}
use Rattle.vm_types.specs.declared.service.Request.TheVariants as request
use Rattle.vm_types.specs.declared.service.Service.{Service}
use Rattle.vm_journal.specs.declared.entry.Entry.{Entry}
use Rattle.vm_journal.specs.declared.entry.Role.TheVariants as role
use Rattle.vm_journal.specs.declared.entry.What.{What}
use Rattle.vm_journal.specs.declared.entry.What.TheVariants as what
use Rattle.pager_model.specs.Carrier.{HasLost, carrying}
use Rattle.pager_model.specs.Flights.{Direction, Flight, reading, carrier_of}
use Rattle.pager_policy.specs.Given.{page_address}
use Rattle.pager_policy.specs.Landings.{all_bad, first_bad, landed_by}
use Rattle.pager_model.specs.Maps.{page_number}
use Rattle.pager_model.specs.Served.{may_fail}
use Rattle.pager_model.specs.Transfers.{is_fault}
use Rattle.serial_laws.proofs.LostCarriers.{lost_when_failed}
use Rattle.serial_laws.proofs.Landed.{landed_first}
use Rattle.call_laws.specs.Ready.{IsFree}
use Rattle.call_laws.proofs.FreeTurn.{free_turn}
use Rattle.lift_carriers.specs.CarrierView.{CarrierView}
use Rattle.vm_state.specs.History.{History, MayAdd, added, entry_by, pager}
use Rattle.call_begins.proofs.Steps.{paid_after}
use Rattle.call_begins.specs.MayBegin.{empty}
use Rattle.seat_laws.specs.FreeSeat.{IsFreeSeat}
use Rattle.seat_laws.specs.Lost.{IsLost}
use Rattle.seat_laws.specs.Unmet.{IsUnmet}
use Rattle.seat_laws.proofs.FreeSeats.{AreStill, not_busy}
use Rattle.seat_laws.proofs.Refusable.{refusal_legal}
use Rattle.seat_turns.specs.Begun.{BeginsFor, CarriesFor, IsBegunFor}
use Rattle.seat_turns.specs.Steps.{AnswersAs, HasTurned}
use Rattle.seat_turns.specs.Worked.{WasLost}
use Rattle.seat_turns.specs.declared.turned.Spoken.{Spoken}
use Rattle.seat_turns.specs.declared.turned.Turned.TheVariants.{Spoke}
use Rattle.seat_turns.proofs.Worked.{empty_out, no_lifts, running_same, still_calm, still_none}

-- ---- the carrier is lost
failed_carrier : (s t : History) (seat : ℕ) (Is : Direction → Type 0) (own : Bool) (begun : CarriesFor s.past seat Is) → WasLost s t seat own → (own ≡ true → is_fault (begun.first).direction ≡ true) → HasLost t.past seat
failed_carrier s t seat Is own begun lost faulted =
    subst (λ (past : List Entry). HasLost past seat) (sym lost.landed)
    (subst (λ (flights : List Flight). HasLost (landed_by s.config seat flights lost.outcomes s.past) seat) (sym begun.carrier)
    (lost_when_failed s.config s.past seat begun.first begun.more lost.outcomes begun.carries (lost.each ∙ ap length begun.carrier) (by lost.failed)))
  where
    by : (all_bad lost.outcomes ≡ true) ⊎ ((own ≡ true) × (first_bad lost.outcomes ≡ true)) → (all_bad lost.outcomes ≡ true) ⊎ ((is_fault (begun.first).direction ≡ true) × (first_bad lost.outcomes ≡ true))
    by (inl all) = inl all
    by (inr first) = inr (faulted first.0, first.1)

own_fault : (seat : ℕ) (r : Ref) (own : Bool) (d : Direction) → BeginsFor seat (request.Reference r) own d → own ≡ true → is_fault d ≡ true
own_fault seat r true d kind is = ap is_fault kind
own_fault seat r false d kind is = absurd (true≢false (sym is))

abbrev fault_address : Direction → ℕ
fault_address (reading (role.Fault q at)) = at.0
fault_address other = 0

named_by : (seat : ℕ) (r : Ref) (own : Bool) (d : Direction) (q : Proc) (at : Addr) → BeginsFor seat (request.Reference r) own d → d ≡ reading (role.Fault q at) → at.0 ≡ page_number (r.addr).0 * PAGE_BYTES
named_by seat r true d q at kind is = let here : (page_address (page_number (r.addr).0)).0 ≡ at.0 = ap fault_address (sym kind ∙ is) in sym here ∙ omega arith
named_by seat r false d q at kind is = absurd (true≢false (sym (ap is_fault is) ∙ kind))

-- ---- of a reference
pub reference_lost : (s t : History) (seat : ℕ) (r : Ref) (own : Bool) → IsBegunFor s.past seat (request.Reference r) own → WasLost s t seat own → IsLost t.past seat r
reference_lost s t seat r own begun lost = record {
  lost = failed_carrier s t seat (BeginsFor seat (request.Reference r) own) own begun lost (own_fault seat r own (begun.first).direction begun.kind);
  named = λ x q at first is.
      let there : (carrying seat t.past).first ≡ Some begun.first = ap (λ (past : List Entry). (carrying seat past).first) lost.landed ∙ (landed_first s.config seat (carrier_of seat s.past) lost.outcomes s.past ∙ (begun.carries).firsts) in
      let same : begun.first ≡ x = same_Some begun.first x (sym there ∙ first) in
      named_by seat r own (begun.first).direction q at begun.kind (ap (λ (y : Flight). y.direction) same ∙ is);
}

free_of : (s : History) (seat : Seat) → IsFreeSeat s seat → IsFree s.past seat.0
free_of s seat free = record { idle = not_busy seat.0 s.past free.free; calm = free.calm }

pub may_deny : (s : History) (seat : Seat) (r : Ref) → IsFreeSeat s seat → seat.0 < length s.config.procs → IsWellFormedReference r → IsLost s.past seat.0 r → IsUnmet s.config (pager s) seat.0 r → MayAdd s (entry_by seat (what.Denied r why.DiskFault))
may_deny s seat r free process formed lost unmet = record {
  legal = refusal_legal s.config s.past seat.0 r (free_of s seat free) process formed lost unmet;
  paid = paid_after s.past (entry_by seat (what.Denied r why.DiskFault)) s.spare 1 refl refl (let room = free.room in omega (arith, room));
}

-- ---- of a service
pub service_lost : (s t : History) (seat : ℕ) (x : Service) → IsBegunFor s.past seat (request.Service x) false → WasLost s t seat false → HasLost t.past seat
service_lost s t seat x begun lost = failed_carrier s t seat (BeginsFor seat (request.Service x) false) false begun lost (λ is. absurd (true≢false (sym is)))

pub may_fail_service : (s : History) (seat : Seat) (x : Service) → IsFreeSeat s seat → seat.0 < length s.config.procs → IsWellFormedService x → IsServiceOf s.config.version x → HasLost s.past seat.0 → ((pager s).status seat.0 ≡ status.Resident → ⊥) ⊎ (may_fail x ≡ true) → MayAdd s (entry_by seat (what.Served x answer.DiskFault))
may_fail_service s seat x free process formed known lost waits = record {
  legal = record {
    in_turn = free_turn s.config s.past seat.0 (what.Served x answer.DiskFault) (free_of s seat free);
    line = record { seat = omega (arith, process); what = (formed, tt) };
    row = record { lost = lost; process = process; waits = waits; known = known };
  };
  paid = paid_after s.past (entry_by seat (what.Served x answer.DiskFault)) s.spare 1 refl refl (let room = free.room in omega (arith, room));
}

-- ---- one entry that answers
module _ {B : Type 0} {seen : B → BlockView} {tells : Tells} (s t : History) (seat : Seat) (free : IsFreeSeat s seat) (running : s.halted ≡ false) where
  pub spoke_turned : (x : Request) (shown : Spoken) (w : What) → AreStill (w ∷ []) → AnswersAs x shown w → t ≡ added s (entry_by seat w) → (c : CarrierView B) → c ≡ empty seat → HasTurned seen tells s t seat (Some x) (Spoke shown) c
  spoke_turned x shown w still answers made c is = record {
    made = w ∷ [];
    past = ap (λ (u : History). u.past) made;
    same = running_same s t seat (w ∷ []) made running;
    answers = record { before = []; last = w; made_is = refl; unspoken = tt; answer = answers };
    idle = λ no. absurd no;
    calm = still_calm s t seat free (w ∷ []) made still;
    out = empty_out t seat c is (still_none s t seat free (w ∷ []) made still);
    staged = no_lifts seat c is;
  }

-- ---- by the landing that lost it
pub lost_reference_here : (s u v : History) (seat : ℕ) (r : Ref) (own : Bool) → v.past ≡ u.past → IsBegunFor s.past seat (request.Reference r) own → WasLost s u seat own → IsLost v.past seat r
lost_reference_here s u v seat r own same begun lost = subst (λ (past : List Entry). IsLost past seat r) (sym same) (reference_lost s u seat r own begun lost)

pub lost_service_here : (s u v : History) (seat : ℕ) (x : Service) → v.past ≡ u.past → IsBegunFor s.past seat (request.Service x) false → WasLost s u seat false → HasLost v.past seat
lost_service_here s u v seat x same begun lost = subst (λ (past : List Entry). HasLost past seat) (sym same) (service_lost s u seat x begun lost)
