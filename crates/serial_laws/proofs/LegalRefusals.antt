-- A request that a carrier's failure refuses is refused legally.
use Rattle.std.proofs.Common.{◌≡◌, ◌⊎◌, inr, ℕ, ◌*◌, ◌<◌, Bool, List, Some, None, length, refl, sym, ap, ◌∙◌, subst, arith}
use Rattle.std.proofs.lemmas.Option.{same_Some}
use Rattle.vm_types.specs.declared.limits.TheConstants.{PAGE_BYTES}
use Rattle.vm_types.specs.WellFormed.{IsRequestOf, IsWellFormedRequest}
use Rattle.vm_types.specs.declared.names.Addr.{Addr}
use Rattle.vm_types.specs.declared.names.Proc.{Proc}
use Rattle.vm_types.specs.declared.names.ProcStatus.TheVariants as status
use Rattle.vm_types.specs.declared.config.Config.{Config}
use Rattle.vm_types.specs.declared.config.Task.{Task}
use Rattle.vm_types.specs.declared.reference.Ref.{Ref}
use Rattle.vm_types.specs.declared.reply.Why.TheVariants as why
use Rattle.vm_types.specs.declared.reply.Answer.TheVariants as answer
use Rattle.vm_types.specs.declared.service.Request.{Request}
use Rattle.vm_types.specs.declared.service.Request.TheVariants as request
use Rattle.vm_journal.specs.declared.entry.Entry.{Entry}
use Rattle.vm_journal.specs.declared.entry.Role.TheVariants as role
use Rattle.vm_journal.specs.declared.entry.What.{What}
use Rattle.vm_journal.specs.declared.entry.What.TheVariants as what
use Rattle.pager_model.specs.Carrier.{HasLost, carrying}
use Rattle.pager_model.specs.Flights.{Flight, reading, carrier_of}
use Rattle.pager_policy.specs.Given.{by_seat, made_by}
use Rattle.pager_policy.specs.Landings.{Outcome, all_bad, first_bad, landed_by}
use Rattle.pager_model.specs.Maps.{page_number}
use Rattle.pager_policy.specs.Moves.{After, Control, Move, carries, refuses}
use Rattle.pager_policy.specs.Policy.{move_of, next_task}
use Rattle.pager_model.specs.Run.{pager_after}
use Rattle.pager_policy.specs.Serial.{refusal_of}
use Rattle.pager_model.specs.Step.{IsLegal}
use Rattle.serial_laws.proofs.LostCarriers.{lost_when_failed}
use Rattle.call_laws.proofs.FreeTurn.{free_turn}
use Rattle.serial_laws.specs.Between.{IsBetween}
use Rattle.serial_laws.specs.Controlled.{IsControlled, IsInBody, IsUnmet}
use Rattle.serial_laws.specs.Laws.{IsRefusedLegally}
use Rattle.serial_laws.proofs.Known.{IsKnownCarry, IsRefusal, MoveIsKnown, landed_from}
use Rattle.serial_laws.proofs.Landed.{landed_first}
use Rattle.serial_laws.proofs.Turns.{free_seat}
use Rattle.serial_laws.proofs.Walks.{body_known, task_formed}

-- the refusal of a request of this process
refused_by : (config : Config) (past : List Entry) (task : Task) (q : Request) → IsBetween config past → (task.proc).0 < length config.procs → IsWellFormedRequest q → IsRequestOf config.version q → HasLost past (task.proc).0
    → ((r : Ref) (x : Flight) (p : Proc) (at : Addr) → q ≡ request.Reference r → (carrying (task.proc).0 past).first ≡ Some x → x.direction ≡ reading (role.Fault p at) → at.0 ≡ page_number (r.addr).0 * PAGE_BYTES)
    → ((pager_after config past).status (task.proc).0 ≡ status.Resident → ⊥) ⊎ IsUnmet config (pager_after config past) (task.proc).0 q
    → IsLegal config past (pager_after config past) (by_seat (task.proc).0 (refusal_of (record task { request = q })))
refused_by config past task (request.Reference r) between process formed known lost named waits = record {
  in_turn = free_turn config past (task.proc).0 (what.Denied r why.DiskFault) (free_seat config past (task.proc).0 between);
  line = record { seat = omega (arith, process); what = formed };
  row = inr (record { lost = lost; named = λ x p at first is. named r x p at refl first is; fault = refl; process = process; waits = waits });
}
refused_by config past task (request.Service s) between process formed known lost named waits = record {
  in_turn = free_turn config past (task.proc).0 (what.Served s answer.DiskFault) (free_seat config past (task.proc).0 between);
  line = record { seat = omega (arith, process); what = (formed, tt) };
  row = record { lost = lost; process = process; waits = waits; known = known };
}

-- once the carrier has landed
module _ (config : Config) (past : List Entry) (seat : ℕ) (ws : List What) (onward : Bool → Bool → After) (outcomes : List Outcome) (known : IsKnownCarry config past seat ws onward) (each : length outcomes ≡ length (carrier_of seat (made_by seat ws past)))
    (between : IsBetween config (landed_from config (made_by seat ws past) seat outcomes)) (is : onward (all_bad outcomes) (first_bad outcomes) ≡ refuses) where
  abbrev begun : List Entry
  begun = made_by seat ws past

  abbrev landed : List Entry
  landed = landed_from config begun seat outcomes

  refusal : IsRefusal config landed seat (known.carrying).first outcomes
  refusal = known.refused outcomes is each

  lost : HasLost landed seat
  lost = subst (λ (flights : List Flight). HasLost (landed_by config seat flights outcomes begun) seat) (sym (known.carrying).carrier)
      (lost_when_failed config begun seat (known.carrying).first (known.carrying).more outcomes (known.carrying).carries (each ∙ ap length (known.carrying).carrier) refusal.failed)

  named : (r : Ref) (x : Flight) (p : Proc) (at : Addr) → (refusal.may.task).request ≡ request.Reference r → (carrying ((refusal.may.task).proc).0 landed).first ≡ Some x → x.direction ≡ reading (role.Fault p at) → at.0 ≡ page_number (r.addr).0 * PAGE_BYTES
  named r x p at own first reads =
      let by_own = ap (λ (n : ℕ). (carrying n landed).first) refusal.may.own ∙ first in
      let same : (known.carrying).first ≡ x = same_Some (known.carrying).first x (sym ((known.carrying).carries).firsts ∙ (sym (landed_first config seat (carrier_of seat begun) outcomes begun) ∙ by_own)) in
      refusal.named r p at own (ap (λ (y : Flight). y.direction) same ∙ reads)

  known_refusal : IsRefusedLegally config landed seat
  known_refusal =
      let formed = task_formed config landed refusal.may.task between.formed refusal.may.next in
      record {
        task = refusal.may.task;
        next = refusal.may.next;
        own = refusal.may.own;
        legal = subst (λ (n : ℕ). IsLegal config landed (pager_after config landed) (by_seat n (refusal_of refusal.may.task))) (sym refusal.may.own)
            (refused_by config landed refusal.may.task (refusal.may.task).request between formed.0 formed.1 formed.2 (subst (HasLost landed) refusal.may.own lost) named refusal.may.waits);
      }

pub refusal_legal : (config : Config) (past : List Entry) (c : Control) (seat : ℕ) (ws : List What) (onward : Bool → Bool → After) (outcomes : List Outcome) (landed : List Entry) → IsBetween config past → IsControlled config past c → IsInBody c.doing
    → move_of config past c ≡ carries seat ws onward → length outcomes ≡ length (carrier_of seat (made_by seat ws past))
    → landed ≡ landed_by config seat (carrier_of seat (made_by seat ws past)) outcomes (made_by seat ws past) → IsBetween config landed
    → onward (all_bad outcomes) (first_bad outcomes) ≡ refuses → IsRefusedLegally config landed seat
refusal_legal config past c seat ws onward outcomes more between controlled body move each land after is =
    let known : IsKnownCarry config past seat ws onward = (subst (λ (m : Move). MoveIsKnown config past (next_task config past ≡ None) m) move (body_known config past c between controlled body)).known in
    subst (λ (xs : List Entry). IsRefusedLegally config xs seat) (sym land) (known_refusal config past seat ws onward outcomes known each (subst (IsBetween config) land after) is)
