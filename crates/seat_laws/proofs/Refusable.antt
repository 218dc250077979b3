-- Reads for a reference that have landed, the first one badly, are lost, and the reference may be refused.
use Rattle.std.proofs.Common.{◌≡◌, inr, ℕ, ◌+◌, ◌<◌, true, List, [], ◌∷◌, ◌++◌, length, refl, sym, ap, ◌∙◌, subst, arith}
use Rattle.std.proofs.lemmas.Option.{same_Some}
use Rattle.vm_types.specs.WellFormed.{IsWellFormedReference}
use Rattle.vm_types.specs.declared.config.Config.{Config}
use Rattle.vm_types.specs.declared.reference.Ref.{Ref}
use Rattle.vm_types.specs.declared.reply.Why.TheVariants as why
use Rattle.vm_journal.specs.declared.entry.Entry.{Entry}
use Rattle.vm_journal.specs.declared.entry.Role.TheVariants as role
use Rattle.vm_journal.specs.declared.entry.What.{What}
use Rattle.vm_journal.specs.declared.entry.What.TheVariants as what
use Rattle.pager_model.specs.Flights.{Direction, Flight, reading, carrier_of}
use Rattle.pager_policy.specs.Given.{by_seat, made_by, page_address}
use Rattle.pager_policy.specs.Landings.{Outcome, first_bad, landed_by, landing}
use Rattle.pager_model.specs.Maps.{page_number}
use Rattle.pager_model.specs.Run.{pager_after}
use Rattle.pager_model.specs.Step.{IsLegal}
use Rattle.pager_model.specs.Transfers.{is_fault}
use Rattle.serial_laws.proofs.LostCarriers.{lost_when_failed}
use Rattle.call_laws.specs.Ready.{IsFree}
use Rattle.call_laws.proofs.FreeTurn.{free_turn}
use Rattle.serial_laws.proofs.Landed.{landed_first}
use Rattle.seat_laws.specs.Lost.{IsLost, IsReadFor}
use Rattle.seat_laws.specs.Unmet.{IsUnmet}

-- ---- what lands is a list of entries of the seat
made_then : (seat : ℕ) (xs ys : List What) (past : List Entry) → made_by seat (xs ++ ys) past ≡ made_by seat ys (made_by seat xs past)
made_then seat [] ys past = refl
made_then seat (x ∷ xs) ys past = made_then seat xs ys (by_seat seat x ∷ past)

pub landed_made : (config : Config) (seat : ℕ) (flights : List Flight) (outcomes : List Outcome) (past : List Entry) → (ws : List What) × (landed_by config seat flights outcomes past ≡ made_by seat ws past)
landed_made config seat [] outcomes past = ([], refl)
landed_made config seat (x ∷ flights) [] past = ([], refl)
landed_made config seat (x ∷ flights) (o ∷ outcomes) past =
    let ws = landing past (pager_after config past).page x x.direction o in
    let rest = landed_made config seat flights outcomes (made_by seat ws past) in
    (ws ++ rest.0, rest.1 ∙ sym (made_then seat ws rest.0 past))

-- ---- the first read failed
abbrev fault_address : Direction → ℕ
fault_address (reading (role.Fault q at)) = at.0
fault_address other = 0

module _ (config : Config) (past : List Entry) (seat : ℕ) (r : Ref) (outcomes : List Outcome) (reads : IsReadFor past seat r) (each : length outcomes ≡ length (carrier_of seat past)) (bad : first_bad outcomes ≡ true) where
  abbrev landed : List Entry
  landed = landed_by config seat (carrier_of seat past) outcomes past

  pub reads_lost : IsLost landed seat r
  reads_lost = record {
    lost =
        subst (λ (flights : List Flight). Rattle.pager_model.specs.Carrier.HasLost (landed_by config seat flights outcomes past) seat) (sym reads.carrier)
        (lost_when_failed config past seat reads.first reads.more outcomes reads.carries (each ∙ ap length reads.carrier) (inr (ap is_fault reads.own_page, bad)));
    named = λ x q at first is.
        let same : reads.first ≡ x = same_Some reads.first x (sym (reads.carries).firsts ∙ (sym (landed_first config seat (carrier_of seat past) outcomes past) ∙ first)) in
        let here : (page_address (page_number (r.addr).0)).0 ≡ at.0 = ap fault_address (sym reads.own_page ∙ (ap (λ (y : Flight). y.direction) same ∙ is)) in
        sym here ∙ omega arith;
  }

-- ---- so it may be refused
pub refusal_legal : (config : Config) (past : List Entry) (p : ℕ) (r : Ref) → IsFree past p → p < length config.procs → IsWellFormedReference r → IsLost past p r → IsUnmet config (pager_after config past) p r
    → IsLegal config past (pager_after config past) (by_seat p (what.Denied r why.DiskFault))
refusal_legal config past p r free process formed is unmet = record {
  in_turn = free_turn config past p (what.Denied r why.DiskFault) free;
  line = record { seat = omega (arith, process); what = formed };
  row = inr (record { lost = is.lost; named = is.named; fault = refl; process = process; waits = unmet });
}
