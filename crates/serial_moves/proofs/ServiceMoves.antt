-- The next step of a service, as a move of the serial policy.
use Rattle.std.proofs.Common.{◌≡◌, ℕ, Bool, false, Option, Some, None, refl, sym, ap, ◌∙◌, subst}
use Rattle.std.proofs.lemmas.Option.{none-some}
use Rattle.vm_types.specs.declared.names.Seat.{Seat}
use Rattle.vm_types.specs.declared.reply.Answer.{Answer}
use Rattle.vm_types.specs.declared.service.Request.TheVariants as request
use Rattle.vm_types.specs.declared.service.Service.{Service}
use Rattle.pager_policy.specs.Moves.{Control as ControlIs, Move, asking, control, rests, saving}
use Rattle.pager_policy.specs.Policy.{ends_request, resident_move, serve_move_by, writing_move}
use Rattle.pager_policy.specs.Serve.{GivenServe, ServeIs, ServeWhy as Reason, serve_again, serve_answered, serve_gives, serve_in_flight, serve_modified_full, serve_more, serve_not_resident}
use Rattle.vm_services.specs.Serves.{Serves, again_of, last_answer, returned}
use Rattle.vm_services.specs.declared.next.ServeNext.{ServeNext}
use Rattle.vm_services.specs.declared.next.ServeNext.TheVariants.{Again, Answered, More}
use Rattle.vm_services.specs.declared.next.ServeWhy.{ServeWhy}
use Rattle.vm_services.specs.declared.next.ServeWhy.TheVariants.{InFlight, ModifiedFull, NotResident}
use Rattle.vm_state.specs.History.{History, pager}
use Rattle.vm_state.specs.LiftsLand.{added_each}
use Rattle.carried_landings.specs.Moved.{IsMoved, IsResting}
use Rattle.carried_landings.proofs.Entries.{quiet_mute, served_mute}
use Rattle.carried_landings.proofs.Moving.{makes_move}
use Rattle.carried_landings.proofs.Shapes.{ServeShape, serve_shape}
use Rattle.serial_moves.proofs.SteadySeats.{rests_there, unchanged}

-- ---- the answer of the model that a returned one stands for
pub answered_is : (x : ServeIs) (shown : Option Answer) (answer : Answer) → Some (Answered answer) ≡ returned x shown → x ≡ serve_answered
answered_is serve_answered shown answer is = refl
answered_is serve_more shown answer is = absurd (cc)
answered_is (serve_again reason) shown answer is = absurd (cc)

pub more_is : (x : ServeIs) (shown : Option Answer) → Some More ≡ returned x shown → x ≡ serve_more
more_is serve_answered None is = absurd (none-some _ (sym is))
more_is serve_answered (Some y) is = absurd (cc)
more_is serve_more shown is = refl
more_is (serve_again reason) shown is = absurd (cc)

abbrev pub reason_of : ServeWhy → Reason
reason_of NotResident = serve_not_resident
reason_of InFlight = serve_in_flight
reason_of ModifiedFull = serve_modified_full

reason_back : (reason : Reason) → reason_of (again_of reason) ≡ reason
reason_back serve_not_resident = refl
reason_back serve_in_flight = refl
reason_back serve_modified_full = refl

pub again_is : (x : ServeIs) (shown : Option Answer) (why : ServeWhy) → Some (Again why) ≡ returned x shown → x ≡ serve_again (reason_of why)
again_is serve_answered None why is = absurd (none-some _ (sym is))
again_is serve_answered (Some y) why is = absurd (cc)
again_is serve_more shown why is = absurd (cc)
again_is (serve_again reason) shown why is = let same : why ≡ again_of reason = cc in sym (ap (λ (w : ServeWhy). serve_again (reason_of w)) same ∙ ap serve_again (reason_back reason))

-- ---- the move
module _ (s : History) (seat : Seat) (x : Service) where
  abbrev g : GivenServe
  g = serve_gives s.config s.past (pager s) seat.0 x

  abbrev the_move : Move
  the_move = resident_move s.config s.past (pager s) seat.0 (request.Service x)

  pub move_by : (y : ServeIs) → g.answer ≡ y → the_move ≡ serve_move_by s.config (pager s) seat.0 g.made y
  move_by y is = ap (serve_move_by s.config (pager s) seat.0 g.made) is

  module _ (t : History) (tells : Bool) (history : t ≡ added_each seat g.made s) where
    pub answered_moved : g.answer ≡ serve_answered → IsMoved tells s t the_move (control (saving false seat.0))
    answered_moved kind = subst (λ (m : Move). IsMoved tells s t m (control (saving false seat.0))) (sym (move_by serve_answered kind))
        (makes_move s t seat g.made history tells (control (saving false seat.0)) (served_mute g.made (subst (λ (y : ServeIs). ServeShape y g.made) kind (serve_shape s.config s.past (pager s) seat.0 x))))

    pub more_moved : g.answer ≡ serve_more → IsMoved tells s t the_move (control asking)
    more_moved kind = subst (λ (m : Move). IsMoved tells s t m (control asking)) (sym (move_by serve_more kind))
        (makes_move s t seat g.made history tells (control asking) (quiet_mute g.made (subst (λ (y : ServeIs). ServeShape y g.made) kind (serve_shape s.config s.past (pager s) seat.0 x))))

  -- no entry is made for these reasons
  rests_else : (why : ServeWhy) → (why ≡ ModifiedFull → ⊥) → serve_move_by s.config (pager s) seat.0 g.made (serve_again (reason_of why)) ≡ rests
  rests_else NotResident full = refl
  rests_else InFlight full = refl
  rests_else ModifiedFull full = absurd (full refl)

-- ---- the call for the seat's own process
module _ (s t : History) (seat : Seat) (x : Service) (p : ℕ) (own : seat.0 ≡ p) where
  own_serves : (next : ServeNext) → Serves s t seat (serve_gives s.config s.past (pager s) p x) next → Serves s t seat (g s seat x) next
  own_serves next serves = subst (λ (n : ℕ). Serves s t seat (serve_gives s.config s.past (pager s) n x) next) (sym own) serves

  -- an answer
  pub serve_answers : (tells : Bool) (answer : Answer) (c : ControlIs) → Serves s t seat (serve_gives s.config s.past (pager s) p x) (Answered answer) → c ≡ control (saving false p) → IsMoved tells s t (the_move s seat x) c
  serve_answers tells answer c serves goes =
      let made = own_serves (Answered answer) serves in
      subst (λ (y : ControlIs). IsMoved tells s t (the_move s seat x) y) (ap (λ (n : ℕ). control (saving false n)) own ∙ sym goes)
      (answered_moved s seat x t tells made.history (answered_is (g s seat x).answer (last_answer (g s seat x).made) answer made.answer))

  -- an entry was made
  pub serve_makes : (tells : Bool) → Serves s t seat (serve_gives s.config s.past (pager s) p x) More → IsMoved tells s t (the_move s seat x) (control asking)
  serve_makes tells serves =
      let made = own_serves More serves in
      more_moved s seat x t tells made.history (more_is (g s seat x).answer (last_answer (g s seat x).made) made.answer)

  -- nothing was made
  module _ (why : ServeWhy) (serves : Serves s t seat (serve_gives s.config s.past (pager s) p x) (Again why)) where
    waits : Serves s t seat (g s seat x) (Again why)
    waits = own_serves (Again why) serves

    stands : (g s seat x).answer ≡ serve_again (reason_of why)
    stands = again_is (g s seat x).answer (last_answer (g s seat x).made) why waits.answer

    pub serve_same : t ≡ s
    serve_same = unchanged s t seat (g s seat x).made waits.history (subst (λ (y : ServeIs). ServeShape y (g s seat x).made) stands (serve_shape s.config s.past (pager s) seat.0 x))

    by_reason : (other : ServeWhy) → why ≡ other → the_move s seat x ≡ serve_move_by s.config (pager s) seat.0 (g s seat x).made (serve_again (reason_of other))
    by_reason other is = move_by s seat x (serve_again (reason_of other)) (stands ∙ ap (λ (w : ServeWhy). serve_again (reason_of w)) is)

    pub serve_writes : why ≡ ModifiedFull → the_move s seat x ≡ writing_move s.config (pager s) seat.0 ends_request (control asking)
    serve_writes is = by_reason ModifiedFull is

    pub serve_rests : (why ≡ ModifiedFull → ⊥) → IsResting s t (the_move s seat x)
    serve_rests full = rests_there s t (the_move s seat x) serve_same (by_reason why refl ∙ rests_else s seat x why full)
