-- Transfers that were begun for a seat's work are so whatever entries other seats make.
use Rattle.std.proofs.Common.{◌≡◌, ℕ, Bool, false, true, List, [], ◌∷◌, reverse, sym, ap, ◌∙◌, subst}
use Rattle.std.specs.Prelude.{Contains}
use Rattle.std.specs.List.{AllByRecursion}
use Rattle.vm_types.specs.declared.config.Config.{Config}
use Rattle.vm_types.specs.declared.names.Seat.{Seat}
use Rattle.vm_types.specs.declared.service.Request.TheVariants as request
use Rattle.vm_types.specs.declared.service.Service.{Service}
use Rattle.vm_journal.specs.declared.entry.Entry.{Entry}
use Rattle.pager_model.specs.Carrier.{Carrying, carrying}
use Rattle.pager_model.specs.Flights.{Direction}
use Rattle.pager_model.specs.Run.{IsRun}
use Rattle.history_lock.specs.Known.{Known}
use Rattle.history_lock.specs.declared.view.View.{View}
use Rattle.vm_state.specs.Based.{base_of, kept_entries}
use Rattle.vm_state.specs.History.{History}
use Rattle.vm_state.specs.declared.base.StateBase.{StateBase}
use Rattle.seat_laws.proofs.OtherSeats.{carrier_stays, carrying_stays}
use Rattle.seat_turns.specs.Begun.{CarriesFor, IsBegunFor}
use Rattle.vm_actors.specs.Doings.{AreBegunFor}
use Rattle.vm_actors.specs.declared.doing.Doing.{Doing}
use Rattle.vm_actors.specs.declared.doing.Doing.TheVariants.{Asking, Swapping, Writing}
use Rattle.vm_actors.proofs.Foreign.{IsForeign}
use Rattle.vm_actors.proofs.Onto.{onto, run_onto}
use Rattle.vm_actors.proofs.StillOut.{found_foreign, found_past}

module _ (config : Config) (seat : ℕ) (Is : Direction → Type 0) where
  one_carries : (e : Entry) (past : List Entry) → IsForeign seat e → IsRun config (e ∷ past) → CarriesFor past seat Is → CarriesFor (e ∷ past) seat Is
  one_carries e past foreign run old =
      let same : carrying seat (e ∷ past) ≡ carrying seat past = carrying_stays (e.seat).0 seat foreign past e.what in
      record {
        first = old.first;
        more = old.more;
        carrier = carrier_stays (e.seat).0 seat foreign config past e.what run.1.row ∙ old.carrier;
        carries = record {
          firsts = ap (λ (c : Carrying). c.first) same ∙ old.carries.firsts;
          begun = ap (λ (c : Carrying). c.begun) same ∙ old.carries.begun;
          none_landed = ap (λ (c : Carrying). c.landed) same ∙ old.carries.none_landed;
          none_failed = ap (λ (c : Carrying). c.failed) same ∙ old.carries.none_failed;
          unspoken = ap (λ (c : Carrying). c.spoken_since) same ∙ old.carries.unspoken;
        };
        kind = old.kind;
      }

  all_carry : (later past : List Entry) → AllByRecursion (IsForeign seat) later → IsRun config (onto past later) → CarriesFor past seat Is → CarriesFor (onto past later) seat Is
  all_carry [] past foreign run old = old
  all_carry (e ∷ later) past foreign run old = all_carry later (e ∷ past) foreign.1 run (one_carries e past foreign.0 (run_onto config later (e ∷ past) run) old)

found_begun : (s : History) (v : View StateBase) (seat : ℕ) (Is : Direction → Type 0) → IsRun s.config s.past → s.keeps ≡ true → Known kept_entries base_of s v → Contains v.numbers seat → CarriesFor (reverse v.seen) seat Is → CarriesFor s.past seat Is
found_begun s v seat Is run keeps known has old =
    let past_is = found_past s v keeps known in
    subst (λ (past : List Entry). CarriesFor past seat Is) (sym past_is)
    (all_carry s.config seat Is known.begins.0 (reverse v.seen) (found_foreign s v seat known has) (subst (IsRun s.config) past_is run) old)

-- what was begun in the journal that a pass has seen is begun in the state that its turn finds
pub stays_begun : (s : History) (v : View StateBase) (seat : Seat) (doing : Doing) (own : Bool) → IsRun s.config s.past → s.keeps ≡ true → Known kept_entries base_of s v → Contains v.numbers seat.0 → AreBegunFor (reverse v.seen) seat doing own → AreBegunFor s.past seat doing own
stays_begun s v seat (Asking p x) own run keeps known has old = found_begun s v seat.0 _ run keeps known has old
stays_begun s v seat Writing own run keeps known has old = tt
stays_begun s v seat Swapping own run keeps known has old = tt

-- a service begins with no read of a page fault, whatever was begun before
pub service_begun : (past : List Entry) (seat : ℕ) (s : Service) (own : Bool) → IsBegunFor past seat (request.Service s) own → IsBegunFor past seat (request.Service s) false
service_begun past seat s false old = old
service_begun past seat s true old = old

-- and so whether or not the page's own reads were begun
pub begun_service : (past : List Entry) (seat : ℕ) (s : Service) (own : Bool) → IsBegunFor past seat (request.Service s) false → IsBegunFor past seat (request.Service s) own
begun_service past seat s false new = new
begun_service past seat s true new = new
