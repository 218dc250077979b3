-- One write cluster, and what its carrying and landing makes of it: a move of writing.
use Rattle.std.proofs.Common.{◌≡◌, List, [], refl, sym, ◌∙◌, subst}
use Rattle.vm_types.specs.BlockView.{BlockView, Tells}
use Rattle.vm_types.specs.declared.names.Seat.{Seat}
use Rattle.vm_journal.specs.declared.entry.What.{What}
use Rattle.pager_policy.specs.Moves.{Control as ControlIs}
use Rattle.pager_policy.specs.Policy.{Ends, unless_all_failed, writing_move}
use Rattle.pager_policy.specs.WriteCluster.{BeginIs, Reason as GivenReason, begin_carry, begin_gives, begin_nothing, reason_need}
use Rattle.call_begins.specs.Lifted.{HasLifts}
use Rattle.call_begins.specs.MayBegin.{empty}
use Rattle.modified_writer.specs.Begins.{Begins, begin_of}
use Rattle.modified_writer.specs.declared.begun.Begin.{Begin}
use Rattle.modified_writer.specs.declared.begun.Begin.TheVariants.{Carry, Nothing, Room}
use Rattle.lift_carriers.specs.CarrierView.{CarrierView}
use Rattle.vm_state.specs.History.{History, pager}
use Rattle.carried_landings.specs.CarriedOn.{IsCarriedOn, IsLoaded, MayRefuse}
use Rattle.carried_landings.specs.Moved.{IsMoveHere, IsMoved, IsSteady}
use Rattle.carried_landings.proofs.Entries.{starts_mute}
use Rattle.carried_landings.proofs.Moving.{carries_move, loaded, may_refuse}
use Rattle.carried_landings.proofs.Shapes.{AreStarts, BeginShape, begin_shape}

-- whatever the answer, transfers alone were begun
starts_of : (answer : BeginIs) (made : List What) → BeginShape answer made → AreStarts made
starts_of begin_carry made shape = shape
starts_of begin_nothing made shape = subst AreStarts (sym shape) tt

pub begin_starts : (s : History) (reason : GivenReason) → AreStarts (begin_gives s.config (pager s) reason).made
begin_starts s reason = starts_of (begin_gives s.config (pager s) reason).answer (begin_gives s.config (pager s) reason).made (begin_shape s.config (pager s) reason)

module _ {B : Type 0} {seen : B → BlockView} {tells : Tells} where
  none_lifted : (t : History) (seat : Seat) (made : List What) (c : CarrierView B) → made ≡ [] → c ≡ empty seat → HasLifts seen tells t seat made c
  none_lifted t seat made c none is =
      subst (λ (ws : List What). HasLifts seen tells t seat ws c) (sym none)
      (subst (λ (x : CarrierView B). HasLifts seen tells t seat [] x) (sym is) (record { own = refl; each = refl; begun = tt }))

  -- with any answer the carrier has the lifts of what was made
  pub begun_lifts : (s t : History) (seat : Seat) (reason : GivenReason) (begin : Begin) (old new : CarrierView B) → old ≡ empty seat
      → Begins seen tells s t seat (begin_gives s.config (pager s) reason) begin old new
      → HasLifts seen tells t seat (begin_gives s.config (pager s) reason).made new
  begun_lifts s t seat reason begin old new is begins = by begin (begin_gives s.config (pager s) reason).answer (begin_shape s.config (pager s) reason) begins.answer begins.carrier
    where
      by : (b : Begin) (answer : BeginIs) → BeginShape answer (begin_gives s.config (pager s) reason).made → b ≡ begin_of answer
          → Rattle.modified_writer.specs.Begins.IsCarrying seen tells t seat (begin_gives s.config (pager s) reason).made b old new → HasLifts seen tells t seat (begin_gives s.config (pager s) reason).made new
      by Carry answer shape same carried = carried
      by Nothing begin_nothing shape same kept = none_lifted t seat (begin_gives s.config (pager s) reason).made new shape (kept ∙ is)
      by Nothing begin_carry shape same kept = absurd (cc)
      by Room begin_nothing shape same kept = absurd (cc)
      by Room begin_carry shape same kept = absurd (cc)

  module _ (s t : History) (seat : Seat) (ends : Ends) (next : ControlIs) (begin : Begin) (old new : CarrierView B) (steady : IsSteady s) (is : old ≡ empty seat)
      (begins : Begins seen tells s t seat (begin_gives s.config (pager s) reason_need) begin old new) where
    abbrev written : List What
    written = (begin_gives s.config (pager s) reason_need).made

    pub write_loaded : IsLoaded seen tells t seat new
    write_loaded = loaded s t seat written begins.history new steady.between (begin_starts s reason_need) (begun_lifts s t seat reason_need begin old new is begins)

    pub write_may : IsMoveHere s (writing_move s.config (pager s) seat.0 ends next) → MayRefuse t.config t.past seat.0 (unless_all_failed ends next)
    write_may here = may_refuse s t seat written begins.history (unless_all_failed ends next) steady.between here

    pub write_moved : (after : History) (c : ControlIs) → IsCarriedOn tells.content t after seat.0 (unless_all_failed ends next) c → IsMoved tells.content s after (writing_move s.config (pager s) seat.0 ends next) c
    write_moved after c carried = carries_move s t seat written begins.history tells.content after (unless_all_failed ends next) c (starts_mute written (begin_starts s reason_need)) carried
