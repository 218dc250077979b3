-- The next step of a reference, as a move of the serial policy.
use Rattle.std.proofs.Common.{◌≡◌, ℕ, Bool, true, false, List, [], Option, Some, None, map, refl, sym, ap, ◌∙◌, subst}
use Rattle.std.specs.List.{AllByRecursion}
use Rattle.std.proofs.lemmas.Option.{none-some, same_Some}
use Rattle.vm_types.specs.BlockView.{BlockView, Tells}
use Rattle.vm_types.specs.declared.names.Seat.{Seat}
use Rattle.vm_types.specs.declared.reference.Ref.{Ref}
use Rattle.vm_types.specs.declared.reply.Reply.{Reply}
use Rattle.vm_types.specs.declared.service.Request.TheVariants as request
use Rattle.vm_journal.specs.declared.entry.What.{What}
use Rattle.pager_policy.specs.Advance.{AgainWhy as Reason, GivenNext, NextIs, advance_gives, again_block_busy, again_charging, again_collided, again_modified_full, again_no_frame, again_not_resident, next_again, next_answered, next_carry, next_more}
use Rattle.pager_model.specs.Flat.{flat_reply}
use Rattle.pager_policy.specs.Given.{with_reply}
use Rattle.pager_policy.specs.Moves.{After, Control as ControlIs, Move, asking, carries, control, rests, saving}
use Rattle.pager_policy.specs.Policy.{advance_move_by, ends_request, resident_move, unless_first_failed, writing_move}
use Rattle.pager_model.specs.Spoken.{IsRight, flat_after}
use Rattle.fault_core.specs.Gives.{Gives, again_of, last_reply, returned}
use Rattle.fault_core.specs.declared.next.AgainWhy.{AgainWhy}
use Rattle.fault_core.specs.declared.next.AgainWhy.TheVariants.{BlockBusy, Charging, Collided, ModifiedFull, NoFrame, NotResident}
use Rattle.fault_core.specs.declared.next.Next.{Next}
use Rattle.fault_core.specs.declared.next.Next.TheVariants.{Again, Answered, Carry, More}
use Rattle.lift_carriers.specs.CarrierView.{CarrierView}
use Rattle.vm_state.specs.History.{History, pager}
use Rattle.vm_state.specs.LiftsLand.{added_each}
use Rattle.carried_landings.specs.CarriedOn.{IsCarriedOn, IsLoaded, MayRefuse}
use Rattle.carried_landings.specs.Moved.{IsMoveHere, IsMoved, IsResting, IsSteady}
use Rattle.carried_landings.proofs.Entries.{quiet_mute, starts_mute}
use Rattle.carried_landings.proofs.Moving.{carries_move, loaded, makes_move, may_refuse, past_is, same_is}
use Rattle.carried_landings.proofs.Mute.{IsMute, mute_same}
use Rattle.carried_landings.proofs.Shapes.{AreStarts, EndsIn, NextShape, advance_shape}
use Rattle.serial_moves.specs.Requests.{finding_for}
use Rattle.serial_moves.proofs.Answered.{ends_right}
use Rattle.serial_moves.proofs.SteadySeats.{rests_there, unchanged}

-- ---- the answer of the model that a returned one stands for
pub record IsAnswered (x : NextIs) (shown : Option Reply) (reply : Reply) : Type 0 where
  pub kind : x ≡ next_answered
  pub reply_is : shown ≡ Some reply

pub answered_is : (x : NextIs) (shown : Option Reply) (reply : Reply) → Some (Answered reply) ≡ returned x shown → IsAnswered x shown reply
answered_is next_answered None reply is = absurd (none-some _ (sym is))
answered_is next_answered (Some y) reply is = record { kind = refl; reply_is = ap Some (let same : reply ≡ y = cc in sym same) }
answered_is next_carry shown reply is = absurd (cc)
answered_is next_more shown reply is = absurd (cc)
answered_is (next_again reason) shown reply is = absurd (cc)

pub carry_is : (x : NextIs) (shown : Option Reply) → Some Carry ≡ returned x shown → x ≡ next_carry
carry_is next_answered None is = absurd (none-some _ (sym is))
carry_is next_answered (Some y) is = absurd (cc)
carry_is next_carry shown is = refl
carry_is next_more shown is = absurd (cc)
carry_is (next_again reason) shown is = absurd (cc)

pub more_is : (x : NextIs) (shown : Option Reply) → Some More ≡ returned x shown → x ≡ next_more
more_is next_answered None is = absurd (none-some _ (sym is))
more_is next_answered (Some y) is = absurd (cc)
more_is next_carry shown is = absurd (cc)
more_is next_more shown is = refl
more_is (next_again reason) shown is = absurd (cc)

-- the reason of the model that a returned one stands for
abbrev pub reason_of : AgainWhy → Reason
reason_of NotResident = again_not_resident
reason_of Collided = again_collided
reason_of BlockBusy = again_block_busy
reason_of Charging = again_charging
reason_of ModifiedFull = again_modified_full
reason_of NoFrame = again_no_frame

reason_back : (reason : Reason) → reason_of (again_of reason) ≡ reason
reason_back again_not_resident = refl
reason_back again_collided = refl
reason_back again_block_busy = refl
reason_back again_charging = refl
reason_back again_modified_full = refl
reason_back again_no_frame = refl

pub again_is : (x : NextIs) (shown : Option Reply) (why : AgainWhy) → Some (Again why) ≡ returned x shown → x ≡ next_again (reason_of why)
again_is next_answered None why is = absurd (none-some _ (sym is))
again_is next_answered (Some y) why is = absurd (cc)
again_is next_carry shown why is = absurd (cc)
again_is next_more shown why is = absurd (cc)
again_is (next_again reason) shown why is = let same : why ≡ again_of reason = cc in sym (ap (λ (w : AgainWhy). next_again (reason_of w)) same ∙ ap next_again (reason_back reason))

-- ---- the move
module _ (s : History) (seat : Seat) (r : Ref) where
  abbrev g : GivenNext
  g = advance_gives s.config s.past (pager s) seat.0 r

  abbrev the_move : Move
  the_move = resident_move s.config s.past (pager s) seat.0 (request.Reference r)

  pub move_by : (x : NextIs) → g.answer ≡ x → the_move ≡ advance_move_by s.config s.past (pager s) seat.0 g.made x
  move_by x is = ap (advance_move_by s.config s.past (pager s) seat.0 g.made) is

  module _ (t : History) (tells : Bool) (shown : Reply) (reply : Reply) (history : t ≡ added_each seat (map (with_reply shown) g.made) s) (kind : g.answer ≡ next_answered)
      (last : last_reply (map (with_reply shown) g.made) ≡ Some reply) (flat : tells ≡ true → reply ≡ flat_reply s.config (flat_after s.config s.past) seat.0 r) where
    ends : EndsIn r g.made
    ends = subst (λ (x : NextIs). NextShape r x g.made) kind (advance_shape s.config s.past (pager s) seat.0 r)

    -- the reference is answered
    pub answered_moved : IsMoved tells s t the_move (control (saving false seat.0))
    answered_moved = subst (λ (m : Move). IsMoved tells s t m (control (saving false seat.0))) (sym (move_by next_answered kind)) (record {
      heard = record { outcomes = []; reply = shown };
      made = (past_is s t seat (map (with_reply shown) g.made) history, refl, refl);
      same = same_is s t seat (map (with_reply shown) g.made) history;
      right = λ told right.
          subst (λ (x : History). IsRight x.config x.past) (sym (same_is s t seat (map (with_reply shown) g.made) history))
          (subst (IsRight s.config) (sym (past_is s t seat (map (with_reply shown) g.made) history))
          (ends_right s.config seat.0 r shown g.made s.past ends (λ other is. same_Some other reply (sym is ∙ last) ∙ flat told) right));
    })

  -- no entry is made for these reasons
  rests_else : (why : AgainWhy) → (why ≡ ModifiedFull → ⊥) → (why ≡ NoFrame → ⊥) → advance_move_by s.config s.past (pager s) seat.0 g.made (next_again (reason_of why)) ≡ rests
  rests_else NotResident full frame = refl
  rests_else Collided full frame = refl
  rests_else BlockBusy full frame = refl
  rests_else Charging full frame = refl
  rests_else ModifiedFull full frame = absurd (full refl)
  rests_else NoFrame full frame = absurd (frame refl)

  shape_by : (x : NextIs) → g.answer ≡ x → NextShape r x g.made
  shape_by x is = subst (λ (y : NextIs). NextShape r y g.made) is (advance_shape s.config s.past (pager s) seat.0 r)

  -- an open reply stands in none of them
  muted : (t : History) (shown : Reply) → AllByRecursion IsMute g.made → t ≡ added_each seat (map (with_reply shown) g.made) s → t ≡ added_each seat g.made s
  muted t shown mute history = history ∙ ap (λ (ws : List What). added_each seat ws s) (mute_same shown g.made mute)

-- after its reads the policy is at the request, which is refused if the first one failed
abbrev pub after_reading : Bool → Bool → After
after_reading = unless_first_failed (control asking)

-- ---- the call for the seat's own process
module _ {B : Type 0} {seen : B → BlockView} {tells : Tells} {old new : CarrierView B} (s t : History) (seat : Seat) (r : Ref) (p : ℕ) (own : seat.0 ≡ p) where
  own_gives : (next : Next) → Gives seen tells s t seat r (advance_gives s.config s.past (pager s) p r) next old new → Gives seen tells s t seat r (g s seat r) next old new
  own_gives next gives = subst (λ (n : ℕ). Gives seen tells s t seat r (advance_gives s.config s.past (pager s) n r) next old new) (sym own) gives

  -- an answer
  pub advance_answered : (reply : Reply) (c : ControlIs) → Gives seen tells s t seat r (advance_gives s.config s.past (pager s) p r) (Answered reply) old new → c ≡ control (saving false p) → IsMoved tells.content s t (the_move s seat r) c
  advance_answered reply c gives goes =
      let made = own_gives (Answered reply) gives in
      let is = answered_is (g s seat r).answer (last_reply (map (with_reply made.given.shown) (g s seat r).made)) reply made.given.answer in
      subst (λ (x : ControlIs). IsMoved tells.content s t (the_move s seat r) x) (ap (λ (n : ℕ). control (saving false n)) own ∙ sym goes)
      (answered_moved s seat r t tells.content made.given.shown reply made.given.history is.kind is.reply_is made.right)

  -- reads were begun
  module _ (gives : Gives seen tells s t seat r (advance_gives s.config s.past (pager s) p r) Carry old new) where
    begun : Gives seen tells s t seat r (g s seat r) Carry old new
    begun = own_gives Carry gives

    kind : (g s seat r).answer ≡ next_carry
    kind = carry_is (g s seat r).answer (last_reply (map (with_reply begun.given.shown) (g s seat r).made)) begun.given.answer

    starts : AreStarts (g s seat r).made
    starts = shape_by s seat r next_carry kind

    history : t ≡ added_each seat (g s seat r).made s
    history = muted s seat r t begun.given.shown (starts_mute (g s seat r).made starts) begun.given.history

    carries_is : the_move s seat r ≡ carries seat.0 (g s seat r).made after_reading
    carries_is = move_by s seat r next_carry kind

    pub advance_loaded : IsSteady s → IsLoaded seen tells t seat new
    advance_loaded steady = loaded s t seat (g s seat r).made history new steady.between starts begun.carrier

    pub advance_may : IsSteady s → IsMoveHere s (the_move s seat r) → MayRefuse t.config t.past seat.0 after_reading
    advance_may steady here = may_refuse s t seat (g s seat r).made history after_reading steady.between (subst (λ (m : Move). IsMoveHere s m) carries_is here)

    pub advance_carried : (after : History) (c : ControlIs) → IsCarriedOn tells.content t after seat.0 after_reading c → IsMoved tells.content s after (the_move s seat r) c
    advance_carried after c carried =
        subst (λ (m : Move). IsMoved tells.content s after m c) (sym carries_is)
        (carries_move s t seat (g s seat r).made history tells.content after after_reading c (starts_mute (g s seat r).made starts) carried)

  -- an entry was made
  pub advance_more : Gives seen tells s t seat r (advance_gives s.config s.past (pager s) p r) More old new → IsMoved tells.content s t (the_move s seat r) (control asking)
  advance_more gives =
      let made = own_gives More gives in
      let is = more_is (g s seat r).answer (last_reply (map (with_reply made.given.shown) (g s seat r).made)) made.given.answer in
      let mute = quiet_mute (g s seat r).made (shape_by s seat r next_more is) in
      subst (λ (m : Move). IsMoved tells.content s t m (control asking)) (sym (move_by s seat r next_more is))
      (makes_move s t seat (g s seat r).made (muted s seat r t made.given.shown mute made.given.history) tells.content (control asking) mute)

  -- nothing was made
  module _ (why : AgainWhy) (gives : Gives seen tells s t seat r (advance_gives s.config s.past (pager s) p r) (Again why) old new) where
    waits : Gives seen tells s t seat r (g s seat r) (Again why) old new
    waits = own_gives (Again why) gives

    stands : (g s seat r).answer ≡ next_again (reason_of why)
    stands = again_is (g s seat r).answer (last_reply (map (with_reply waits.given.shown) (g s seat r).made)) why waits.given.answer

    pub advance_same : t ≡ s
    advance_same =
        unchanged s t seat (map (with_reply waits.given.shown) (g s seat r).made) waits.given.history (ap (λ (ws : List What). map (with_reply waits.given.shown) ws) (shape_by s seat r (next_again (reason_of why)) stands))

    by_reason : (other : AgainWhy) → why ≡ other → the_move s seat r ≡ advance_move_by s.config s.past (pager s) seat.0 (g s seat r).made (next_again (reason_of other))
    by_reason other is = move_by s seat r (next_again (reason_of other)) (stands ∙ ap (λ (w : AgainWhy). next_again (reason_of w)) is)

    pub advance_writes : why ≡ ModifiedFull → the_move s seat r ≡ writing_move s.config (pager s) seat.0 ends_request (control asking)
    advance_writes is = by_reason ModifiedFull is

    pub advance_finds : why ≡ NoFrame → the_move s seat r ≡ finding_for s seat.0
    advance_finds is = by_reason NoFrame is

    pub advance_rests : (why ≡ ModifiedFull → ⊥) → (why ≡ NoFrame → ⊥) → IsResting s t (the_move s seat r)
    advance_rests full frame = rests_there s t (the_move s seat r) advance_same (by_reason why refl ∙ rests_else s seat r why full frame)
