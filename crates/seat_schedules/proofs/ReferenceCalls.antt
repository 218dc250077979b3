-- The next step of a reference leaves its seat at work.
use Rattle.std.proofs.Common.{◌≡◌, List, Option, Some, None, map, refl, sym, ap, ◌∙◌, subst}
use Rattle.std.proofs.lemmas.Option.{none-some, same_Some}
use Rattle.vm_types.specs.BlockView.{BlockView, Tells}
use Rattle.vm_types.specs.WellFormed.{IsWellFormedReference}
use Rattle.vm_types.specs.declared.names.Seat.{Seat}
use Rattle.vm_types.specs.declared.reference.Ref.{Ref}
use Rattle.vm_types.specs.declared.reply.Reply.{Reply}
use Rattle.vm_journal.specs.declared.entry.Entry.{Entry}
use Rattle.vm_journal.specs.declared.entry.What.{What}
use Rattle.pager_policy.specs.Advance.{GivenNext, NextIs, advance_gives, next_again, next_answered, next_carry, next_more}
use Rattle.pager_policy.specs.Given.{made_by, with_reply}
use Rattle.lift_carriers.specs.CarrierView.{CarrierView}
use Rattle.vm_state.specs.History.{History, pager}
use Rattle.vm_state.specs.LiftsLand.{added_each}
use Rattle.fault_core.specs.Gives.{Gives, last_reply, returned}
use Rattle.fault_core.specs.Lifted.{IsCarrying}
use Rattle.fault_core.specs.declared.next.AgainWhy.{AgainWhy}
use Rattle.fault_core.specs.declared.next.Next.{Next}
use Rattle.fault_core.specs.declared.next.Next.TheVariants.{Again, Answered, Carry, More, Room}
use Rattle.carried_landings.proofs.Entries.{each_past, starts_mute}
use Rattle.carried_landings.proofs.Mute.{mute_same}
use Rattle.carried_landings.proofs.Shapes.{AreStarts, NextShape, advance_shape}
use Rattle.seat_laws.specs.FreeSeat.{IsFreeSeat}
use Rattle.seat_schedules.specs.AtWork.{HasWorked, idle}
use Rattle.seat_laws.specs.Lost.{IsReadFor}
use Rattle.seat_schedules.specs.declared.worker.Worker.{Worker}
use Rattle.seat_laws.proofs.FreeSeats.{AreStill, ended_are_still, none_are_still, not_busy, quiet_are_still, shown_are_still}
use Rattle.seat_schedules.proofs.OwnWork.{starts_worked, still_worked}
use Rattle.seat_laws.proofs.ReadsBegun.{reads_begun}
use Rattle.seat_laws.proofs.ReadsFor.{advance_reads}

carry_is : (x : NextIs) (shown : Option Reply) → Some Carry ≡ returned x shown → x ≡ next_carry
carry_is next_answered None is = absurd (none-some _ (sym is))
carry_is next_answered (Some y) is = absurd (cc)
carry_is next_carry shown is = refl
carry_is next_more shown is = absurd (cc)
carry_is (next_again reason) shown is = absurd (cc)

-- but with reads nothing begins or lands
shape_still : (r : Ref) (x : NextIs) (made : List What) → (x ≡ next_carry → ⊥) → NextShape r x made → AreStill made
shape_still r next_answered made other shape = ended_are_still r made shape
shape_still r next_carry made other shape = absurd (other refl)
shape_still r next_more made other shape = quiet_are_still made shape
shape_still r (next_again reason) made other shape = none_are_still made shape

module _ (s : History) (seat : Seat) (r : Ref) where
  abbrev g : GivenNext
  g = advance_gives s.config s.past (pager s) seat.0 r

  made_still : (next : Next) (shown : Option Reply) → (next ≡ Carry → ⊥) → Some next ≡ returned g.answer shown → AreStill g.made
  made_still next shown other is =
      shape_still r g.answer g.made (λ carries. other (same_Some next Carry (is ∙ ap (λ (x : NextIs). returned x shown) carries))) (advance_shape s.config s.past (pager s) seat.0 r)

module _ {B : Type 0} (seen : B → BlockView) (tells : Tells) where
  -- ---- no read was begun
  as_before : (t : History) (seat : Seat) (made : List What) (next : Next) (old new : CarrierView B) → (next ≡ Carry → ⊥) → IsCarrying seen tells t seat made next old new → new ≡ old
  as_before t seat made Carry old new other carrying = absurd (other refl)
  as_before t seat made (Answered reply) old new other carrying = carrying
  as_before t seat made More old new other carrying = carrying
  as_before t seat made (Again why) old new other carrying = carrying
  as_before t seat made Room old new other carrying = carrying

module _ {B : Type 0} {seen : B → BlockView} {tells : Tells} where
  stays_by : (s t : History) (seat : Seat) (r : Ref) (next : Next) (w : Worker B) (new : CarrierView B) → (next ≡ Carry → ⊥) → IsFreeSeat s seat → w ≡ idle seat
      → Gives seen tells s t seat r (advance_gives s.config s.past (pager s) seat.0 r) next w.carrier new
      → HasWorked seen tells s t seat (record w { carrier = new })
  stays_by s t seat r next w new other free is gives =
      let shown = gives.given.shown in
      let still = made_still s seat r next (last_reply (map (with_reply shown) (g s seat r).made)) other gives.given.answer in
      still_worked s seat free t (map (with_reply shown) (g s seat r).made) gives.given.history (shown_are_still shown (g s seat r).made still) (record w { carrier = new })
      (ap (λ (c : CarrierView B). record w { carrier = c }) (as_before seen tells t seat (g s seat r).made next w.carrier new other gives.carrier) ∙ is)

  pub reference_answered : (s t : History) (seat : Seat) (r : Ref) (reply : Reply) (w : Worker B) (new : CarrierView B) → IsFreeSeat s seat → w ≡ idle seat
      → Gives seen tells s t seat r (advance_gives s.config s.past (pager s) seat.0 r) (Answered reply) w.carrier new
      → HasWorked seen tells s t seat (record w { carrier = new })
  reference_answered s t seat r reply w new = stays_by s t seat r (Answered reply) w new (λ same. cc)

  pub reference_more : (s t : History) (seat : Seat) (r : Ref) (w : Worker B) (new : CarrierView B) → IsFreeSeat s seat → w ≡ idle seat
      → Gives seen tells s t seat r (advance_gives s.config s.past (pager s) seat.0 r) More w.carrier new
      → HasWorked seen tells s t seat (record w { carrier = new })
  reference_more s t seat r w new = stays_by s t seat r More w new (λ same. cc)

  pub reference_again : (s t : History) (seat : Seat) (r : Ref) (why : AgainWhy) (w : Worker B) (new : CarrierView B) → IsFreeSeat s seat → w ≡ idle seat
      → Gives seen tells s t seat r (advance_gives s.config s.past (pager s) seat.0 r) (Again why) w.carrier new
      → HasWorked seen tells s t seat (record w { carrier = new })
  reference_again s t seat r why w new = stays_by s t seat r (Again why) w new (λ same. cc)

  -- ---- reads were begun
  pub reference_carried : (s t : History) (seat : Seat) (r : Ref) (old new : CarrierView B) → IsFreeSeat s seat → IsWellFormedReference r
      → Gives seen tells s t seat r (advance_gives s.config s.past (pager s) seat.0 r) Carry old new
      → HasWorked seen tells s t seat (record { carrier = new; reference = Some r })
  reference_carried s t seat r old new free formed gives =
      let shown = gives.given.shown in
      let kind = carry_is (g s seat r).answer (last_reply (map (with_reply shown) (g s seat r).made)) gives.given.answer in
      let starts : AreStarts (g s seat r).made = subst (λ (x : NextIs). NextShape r x (g s seat r).made) kind (advance_shape s.config s.past (pager s) seat.0 r) in
      let history : t ≡ added_each seat (g s seat r).made s = gives.given.history ∙ ap (λ (ws : List What). added_each seat ws s) (mute_same shown (g s seat r).made (starts_mute (g s seat r).made starts)) in
      let past_is : t.past ≡ made_by seat.0 (g s seat r).made s.past = ap (λ (u : History). u.past) history ∙ each_past seat (g s seat r).made s in
      let read : IsReadFor t.past seat.0 r =
      subst (λ (past : List Entry). IsReadFor past seat.0 r) (sym past_is)
      (reads_begun s.past seat.0 r (g s seat r).made (not_busy seat.0 s.past free.free) free.free (advance_reads s.config s.past (pager s) seat.0 r kind)) in
      starts_worked s seat free t (g s seat r).made history starts (record { carrier = new; reference = Some r }) gives.carrier
      (λ q is. subst IsWellFormedReference (same_Some r q is) formed) (λ q is. subst (IsReadFor t.past seat.0) (same_Some r q is) read)
