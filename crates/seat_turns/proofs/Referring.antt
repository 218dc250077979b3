-- What the next step for a reference, and for a service, leaves.
use Rattle.std.proofs.Common.{◌≡◌, true, false, List, [], Option, Some, None, map, refl, sym, ap, ◌∙◌, subst}
use Rattle.std.proofs.lemmas.Option.{none-some}
use Rattle.vm_types.specs.BlockView.{BlockView, Tells}
use Rattle.vm_types.specs.declared.names.Seat.{Seat}
use Rattle.vm_types.specs.declared.reference.Ref.{Ref}
use Rattle.vm_types.specs.declared.reply.Answer.{Answer}
use Rattle.vm_types.specs.declared.reply.Reply.{Reply}
use Rattle.vm_types.specs.declared.service.Request.{Request}
use Rattle.vm_types.specs.declared.service.Request.TheVariants as request
use Rattle.vm_types.specs.declared.service.Service.{Service}
use Rattle.vm_journal.specs.declared.entry.Entry.{Entry}
use Rattle.vm_journal.specs.declared.entry.What.{What}
use Rattle.pager_policy.specs.Advance.{GivenNext, NextIs, advance_gives, next_again, next_answered, next_carry, next_more}
use Rattle.pager_policy.specs.Given.{with_reply}
use Rattle.pager_policy.specs.Serve.{GivenServe, ServeIs, serve_again, serve_answered, serve_gives, serve_more}
use Rattle.lift_carriers.specs.CarrierView.{CarrierView}
use Rattle.vm_state.specs.History.{History, pager}
use Rattle.vm_state.specs.LiftsLand.{added_each}
use Rattle.call_begins.specs.MayBegin.{empty}
use Rattle.fault_core.specs.Gives.{Gives, last_reply, returned}
use Rattle.fault_core.specs.declared.next.AgainWhy.{AgainWhy}
use Rattle.fault_core.specs.declared.next.Next.TheVariants.{Again, Answered, Carry, More}
use Rattle.vm_services.specs.Serves.{Serves, last_answer, returned as served_as}
use Rattle.vm_services.specs.declared.next.ServeNext.TheVariants as serve_next
use Rattle.vm_services.specs.declared.next.ServeWhy.{ServeWhy}
use Rattle.carried_landings.proofs.Entries.{starts_mute}
use Rattle.carried_landings.proofs.Mute.{mute_same}
use Rattle.carried_landings.proofs.Shapes.{AreQuiet, AreStarts, EndsIn, IsServedOnce, NextShape, ServeShape, advance_shape, serve_shape}
use Rattle.seat_laws.specs.FreeSeat.{IsFreeSeat}
use Rattle.seat_laws.specs.Lost.{IsReadFor}
use Rattle.seat_laws.proofs.FreeSeats.{AreStill, ended_are_still, not_busy, past_is, quiet_are_still, served_are_still, shown_are_still}
use Rattle.seat_laws.proofs.ReadsBegun.{reads_begun}
use Rattle.seat_laws.proofs.ReadsFor.{advance_reads}
use Rattle.seat_turns.specs.Begun.{IsBegunFor}
use Rattle.seat_turns.specs.Steps.{AnswersRequest, AreUnspoken, HasTurned}
use Rattle.seat_turns.specs.declared.turned.Spoken.{Spoken}
use Rattle.seat_turns.specs.declared.turned.Spoken.TheVariants as spoken
use Rattle.seat_turns.specs.declared.turned.Turned.TheVariants as turned
use Rattle.seat_turns.proofs.Unspoken.{quiet_all_shown, quiet_unspoken, reference_answers, service_answers, starts_unspoken}
use Rattle.seat_turns.proofs.Worked.{empty_out, empty_waits, no_lifts, nothing_made, running_same, starts_are_calm, starts_out, starts_wait, still_calm, still_none}

-- ---- by what was returned
answered_is : (x : NextIs) (o : Option Reply) (reply : Reply) → Some (Answered reply) ≡ returned x o → (x ≡ next_answered) × (o ≡ Some reply)
answered_is next_answered None reply is = absurd (none-some _ (sym is))
answered_is next_answered (Some y) reply is = (refl, cc)
answered_is next_carry o reply is = absurd (cc)
answered_is next_more o reply is = absurd (cc)
answered_is (next_again reason) o reply is = absurd (cc)

carry_is : (x : NextIs) (o : Option Reply) → Some Carry ≡ returned x o → x ≡ next_carry
carry_is next_answered None is = absurd (none-some _ (sym is))
carry_is next_answered (Some y) is = absurd (cc)
carry_is next_carry o is = refl
carry_is next_more o is = absurd (cc)
carry_is (next_again reason) o is = absurd (cc)

more_is : (x : NextIs) (o : Option Reply) → Some More ≡ returned x o → x ≡ next_more
more_is next_answered None is = absurd (none-some _ (sym is))
more_is next_answered (Some y) is = absurd (cc)
more_is next_carry o is = absurd (cc)
more_is next_more o is = refl
more_is (next_again reason) o is = absurd (cc)

again_none : (r : Ref) (x : NextIs) (o : Option Reply) (why : AgainWhy) (made : List What) → Some (Again why) ≡ returned x o → NextShape r x made → made ≡ []
again_none r next_answered None why made is shape = absurd (none-some _ (sym is))
again_none r next_answered (Some y) why made is shape = absurd (cc)
again_none r next_carry o why made is shape = absurd (cc)
again_none r next_more o why made is shape = absurd (cc)
again_none r (next_again reason) o why made is shape = shape

served_is : (x : ServeIs) (o : Option Answer) (given : Answer) → Some (serve_next.Answered given) ≡ served_as x o → (x ≡ serve_answered) × (o ≡ Some given)
served_is serve_answered None given is = absurd (none-some _ (sym is))
served_is serve_answered (Some y) given is = (refl, cc)
served_is serve_more o given is = absurd (cc)
served_is (serve_again reason) o given is = absurd (cc)

serve_more_is : (x : ServeIs) (o : Option Answer) → Some serve_next.More ≡ served_as x o → x ≡ serve_more
serve_more_is serve_answered None is = absurd (none-some _ (sym is))
serve_more_is serve_answered (Some y) is = absurd (cc)
serve_more_is serve_more o is = refl
serve_more_is (serve_again reason) o is = absurd (cc)

serve_none : (x : ServeIs) (o : Option Answer) (why : ServeWhy) (made : List What) → Some (serve_next.Again why) ≡ served_as x o → ServeShape x made → made ≡ []
serve_none serve_answered None why made is shape = absurd (none-some _ (sym is))
serve_none serve_answered (Some y) why made is shape = absurd (cc)
serve_none serve_more o why made is shape = absurd (cc)
serve_none (serve_again reason) o why made is shape = shape

-- it stays free
pub still_free : (s t : History) (seat : Seat) → t ≡ s → IsFreeSeat s seat → IsFreeSeat t seat
still_free s t seat same free = subst (λ (u : History). IsFreeSeat u seat) (sym same) free

-- ---- entries that begin and land nothing
module _ {B : Type 0} {seen : B → BlockView} {tells : Tells} (s t : History) (seat : Seat) (free : IsFreeSeat s seat) (running : s.halted ≡ false) (ws : List What) (history : t ≡ added_each seat ws s) (still : AreStill ws) where
  still_spoke : (x : Request) (shown : Spoken) → AnswersRequest x shown ws → (c : CarrierView B) → c ≡ empty seat → HasTurned seen tells s t seat (Some x) (turned.Spoke shown) c
  still_spoke x shown answers c is = record {
    made = ws;
    past = past_is s seat t ws history;
    same = running_same s t seat ws history running;
    answers = answers;
    idle = λ no. absurd no;
    calm = still_calm s t seat free ws history still;
    out = empty_out t seat c is (still_none s t seat free ws history still);
    staged = no_lifts seat c is;
  }

  still_more : (request : Option Request) → AreUnspoken ws → (c : CarrierView B) → c ≡ empty seat → HasTurned seen tells s t seat request turned.Made c
  still_more request unspoken c is = record {
    made = ws;
    past = past_is s seat t ws history;
    same = running_same s t seat ws history running;
    answers = unspoken;
    idle = λ no. absurd no;
    calm = still_calm s t seat free ws history still;
    out = empty_out t seat c is (still_none s t seat free ws history still);
    staged = empty_waits seat c is;
  }

-- ---- a reference
abbrev given_next : History → Seat → Ref → GivenNext
given_next s seat r = advance_gives s.config s.past (pager s) seat.0 r

module _ {B : Type 0} {seen : B → BlockView} {tells : Tells} (s t : History) (seat : Seat) (r : Ref) (free : IsFreeSeat s seat) (running : s.halted ≡ false) (old new : CarrierView B) (is : old ≡ empty seat) where
  pub answered_turned : (reply : Reply) → Gives seen tells s t seat r (given_next s seat r) (Answered reply) old new → HasTurned seen tells s t seat (Some (request.Reference r)) (turned.Spoke (spoken.Reply reply)) new
  answered_turned reply gives =
      let shown = gives.given.shown in
      let kind = answered_is (given_next s seat r).answer (last_reply (map (with_reply shown) (given_next s seat r).made)) reply gives.given.answer in
      let ends : EndsIn r (given_next s seat r).made = subst (λ (x : NextIs). NextShape r x (given_next s seat r).made) kind.0 (advance_shape s.config s.past (pager s) seat.0 r) in
      still_spoke s t seat free running (map (with_reply shown) (given_next s seat r).made) gives.given.history (shown_are_still shown (given_next s seat r).made (ended_are_still r (given_next s seat r).made ends)) (request.Reference r) (spoken.Reply reply)
      (reference_answers r reply shown (given_next s seat r).made ends kind.1) new (gives.carrier ∙ is)

  pub more_turned : Gives seen tells s t seat r (given_next s seat r) More old new → HasTurned seen tells s t seat (Some (request.Reference r)) turned.Made new
  more_turned gives =
      let shown = gives.given.shown in
      let kind = more_is (given_next s seat r).answer (last_reply (map (with_reply shown) (given_next s seat r).made)) gives.given.answer in
      let quiet : AreQuiet (given_next s seat r).made = subst (λ (x : NextIs). NextShape r x (given_next s seat r).made) kind (advance_shape s.config s.past (pager s) seat.0 r) in
      still_more s t seat free running (map (with_reply shown) (given_next s seat r).made) gives.given.history (shown_are_still shown (given_next s seat r).made (quiet_are_still (given_next s seat r).made quiet)) (Some (request.Reference r)) (quiet_all_shown shown (given_next s seat r).made quiet) new (gives.carrier ∙ is)

  pub again_same : (why : AgainWhy) → Gives seen tells s t seat r (given_next s seat r) (Again why) old new → t ≡ s
  again_same why gives =
      let shown = gives.given.shown in
      let none = again_none r (given_next s seat r).answer (last_reply (map (with_reply shown) (given_next s seat r).made)) why (given_next s seat r).made gives.given.answer (advance_shape s.config s.past (pager s) seat.0 r) in
      nothing_made s t seat (map (with_reply shown) (given_next s seat r).made) gives.given.history (ap (map (with_reply shown)) none)

  module _ (gives : Gives seen tells s t seat r (given_next s seat r) Carry old new) where
    abbrev shown : Reply
    shown = gives.given.shown

    carries : (given_next s seat r).answer ≡ next_carry
    carries = carry_is (given_next s seat r).answer (last_reply (map (with_reply shown) (given_next s seat r).made)) gives.given.answer

    starts : AreStarts (given_next s seat r).made
    starts = subst (λ (x : NextIs). NextShape r x (given_next s seat r).made) carries (advance_shape s.config s.past (pager s) seat.0 r)

    history : t ≡ added_each seat (given_next s seat r).made s
    history = gives.given.history ∙ ap (λ (ws : List What). added_each seat ws s) (mute_same shown (given_next s seat r).made (starts_mute (given_next s seat r).made starts))

    pub reads_turned : HasTurned seen tells s t seat (Some (request.Reference r)) turned.Reads new
    reads_turned = record {
      made = (given_next s seat r).made;
      past = past_is s seat t (given_next s seat r).made history;
      same = running_same s t seat (given_next s seat r).made history running;
      answers = starts_unspoken (given_next s seat r).made starts;
      idle = λ no. absurd no;
      calm = starts_are_calm s t seat free (given_next s seat r).made history starts new gives.carrier;
      out = starts_out s t seat free (given_next s seat r).made history starts new gives.carrier;
      staged = starts_wait s t seat free (given_next s seat r).made history starts new gives.carrier;
    }

    pub reads_for : IsBegunFor t.past seat.0 (request.Reference r) true
    reads_for =
        let read : IsReadFor t.past seat.0 r =
        subst (λ (past : List Entry). IsReadFor past seat.0 r) (sym (past_is s seat t (given_next s seat r).made history))
        (reads_begun s.past seat.0 r (given_next s seat r).made (not_busy seat.0 s.past free.free) free.free (advance_reads s.config s.past (pager s) seat.0 r carries)) in
        record { first = read.first; more = read.more; carrier = read.carrier; carries = read.carries; kind = read.own_page }

-- ---- a service
abbrev given_serve : History → Seat → Service → GivenServe
given_serve s seat x = serve_gives s.config s.past (pager s) seat.0 x

module _ {B : Type 0} {seen : B → BlockView} {tells : Tells} (s t : History) (seat : Seat) (x : Service) (free : IsFreeSeat s seat) (running : s.halted ≡ false) (c : CarrierView B) (is : c ≡ empty seat) where
  pub served_turned : (given : Answer) → Serves s t seat (given_serve s seat x) (serve_next.Answered given) → HasTurned seen tells s t seat (Some (request.Service x)) (turned.Spoke (spoken.Answer given)) c
  served_turned given serves =
      let kind = served_is (given_serve s seat x).answer (last_answer (given_serve s seat x).made) given serves.answer in
      let once : IsServedOnce (given_serve s seat x).made = subst (λ (y : ServeIs). ServeShape y (given_serve s seat x).made) kind.0 (serve_shape s.config s.past (pager s) seat.0 x) in
      still_spoke s t seat free running (given_serve s seat x).made serves.history (served_are_still (given_serve s seat x).made once) (request.Service x) (spoken.Answer given)
      (service_answers s.config s.past (pager s) seat.0 x given kind.0 kind.1) c is

  pub serve_more_turned : Serves s t seat (given_serve s seat x) serve_next.More → HasTurned seen tells s t seat (Some (request.Service x)) turned.Made c
  serve_more_turned serves =
      let quiet : AreQuiet (given_serve s seat x).made = subst (λ (y : ServeIs). ServeShape y (given_serve s seat x).made) (serve_more_is (given_serve s seat x).answer (last_answer (given_serve s seat x).made) serves.answer) (serve_shape s.config s.past (pager s) seat.0 x) in
      still_more s t seat free running (given_serve s seat x).made serves.history (quiet_are_still (given_serve s seat x).made quiet) (Some (request.Service x)) (quiet_unspoken (given_serve s seat x).made quiet) c is

pub serve_again_same : (s t : History) (seat : Seat) (x : Service) (why : ServeWhy) → Serves s t seat (given_serve s seat x) (serve_next.Again why) → t ≡ s
serve_again_same s t seat x why serves =
    nothing_made s t seat (given_serve s seat x).made serves.history
    (serve_none (given_serve s seat x).answer (last_answer (given_serve s seat x).made) why (given_serve s seat x).made serves.answer (serve_shape s.config s.past (pager s) seat.0 x))
