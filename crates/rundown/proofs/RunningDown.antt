-- The rundown so far: the moves that were made, and what they leave.
use Rattle.std.proofs.Common.{◌≡◌, ◌<◌, Bool, true, false, List, [], ◌∷◌, ◌++◌, length, refl, sym, ap, ◌∙◌, subst}
use Rattle.vm_types.specs.declared.config.Config.{Config}
use Rattle.vm_journal.specs.declared.entry.Entry.{Entry}
use Rattle.pager_policy.specs.Cleaning.{Cleaning as CleaningIs}
use Rattle.pager_policy.specs.Moves.{Control as ControlIs, cleaning, control, rests}
use Rattle.pager_model.specs.Order.{IsAnswered}
use Rattle.pager_policy.specs.Policy.{move_of}
use Rattle.pager_model.specs.Run.{IsRun, pager_after}
use Rattle.pager_policy.specs.Rundown.{at_slot, cleaning_move}
use Rattle.pager_policy.specs.Serial.{Heard, IsMove, IsReached, IsRundown, Rests}
use Rattle.pager_model.specs.Spoken.{IsRight}
use Rattle.serial_laws.specs.Between.{IsBetween}
use Rattle.serial_laws.proofs.Kept.{moves_between, moves_longer}
use Rattle.serial_laws.proofs.Rundowns.{cleaning_fits}
use Rattle.call_begins.specs.MayBegin.{empty}
use Rattle.lift_carriers.specs.CarrierView.{CarrierView}
use Rattle.vm_state.specs.History.{History}
use Rattle.carried_landings.specs.Moved.{IsMoved, IsResting, IsSameBut}
use Rattle.carried_landings.proofs.Moving.{same_then}
use Rattle.rundown.specs.Cleans.{writer_seat}
use Rattle.rundown.proofs.Fronts.{IsFront, front_then, move_front, no_front}
use Rattle.rundown.proofs.MovesMade.{spare_only}
use Rattle.rundown.proofs.Unspoken.{cleaning_unspoken, move_answered}

-- ---- of a configuration, after a past
-- between two moves, each request is answered, and moves of the rundown lead there
pub record IsOn (config : Config) (from past : List Entry) (c : ControlIs) : Type 0 where
  pub between : IsBetween config past
  pub answered : IsAnswered config past
  pub front : IsFront from past
  pub told : List Heard
  pub reached : IsReached config from (at_slot 0 0 false) told past c

module _ (config : Config) (from past : List Entry) (at : CleaningIs) (on : IsOn config from past (control (cleaning at))) (heard : Heard) (more : List Entry) (next : ControlIs) (move : IsMove config past (control (cleaning at)) heard more next) where
  one_on : IsRun config more → IsOn config from more next
  one_on run = record {
    between = moves_between config past (control (cleaning at)) heard more next on.between (cleaning_fits config past at) move run;
    answered = λ p. move_answered config past heard more next (cleaning_move config past (pager_after config past) at) (cleaning_unspoken config past (pager_after config past) at).known move p ∙ on.answered p;
    front = front_then from past more on.front (move_front config past heard more next (cleaning_move config past (pager_after config past) at) move);
    told = heard ∷ on.told;
    reached = record { earlier_past = past; earlier_control = control (cleaning at); before = on.reached; move = move };
  }

  longer : length past < length more
  longer = moves_longer config past (control (cleaning at)) heard more next on.between (cleaning_fits config past at) move

-- ---- of a history
pub record IsRunningDown (tells : Bool) (first s : History) (c : ControlIs) : Type 0 where
  pub same : IsSameBut first s
  pub on : IsOn first.config first.past s.past c
  pub right : tells ≡ true → IsRight first.config first.past → IsRight s.config s.past

pub none_yet : (tells : Bool) (s : History) → IsBetween s.config s.past → IsAnswered s.config s.past → IsRunningDown tells s s (at_slot 0 0 false)
none_yet tells s between answered = record {
  same = refl;
  on = record { between = between; answered = answered; front = no_front s.past; told = []; reached = (refl, refl) };
  right = λ told right. right;
}

module _ (tells : Bool) (first s : History) (c : ControlIs) (down : IsRunningDown tells first s c) where
  config_is : s.config ≡ first.config
  config_is = ap (λ (x : History). x.config) down.same

  pub down_between : IsBetween s.config s.past
  down_between = subst (λ (k : Config). IsBetween k s.past) (sym config_is) down.on.between

  pub down_answered : IsAnswered s.config s.past
  down_answered = subst (λ (k : Config). IsAnswered k s.past) (sym config_is) down.on.answered

  -- the writer's seat is the same
  pub down_carrier : {B : Type 0} (carrier : CarrierView B) → carrier ≡ empty (writer_seat first) → carrier ≡ empty (writer_seat s)
  down_carrier {B} carrier is = is ∙ ap (λ (k : Config). empty {B = B} (record { 0 = length k.procs })) (sym config_is)

  -- no entry was made since
  pub still_down : (t : History) → IsSameBut s t → t.past ≡ s.past → IsRunningDown tells first t c
  still_down t same past = subst (λ (x : History). IsRunningDown tells first x c) (sym (spare_only s t same past)) (record {
    same = ap (λ (x : History). record x { spare = t.spare }) down.same;
    on = down.on;
    right = down.right;
  })

  -- it is over
  module _ (t : History) (resting : IsResting s t (move_of s.config s.past c)) where
    pub over_down : IsRunningDown tells first t c
    over_down = still_down t resting.same resting.none_made

    rests_there : Rests first.config s.past c
    rests_there = subst (λ (k : Config). move_of k s.past c ≡ rests) config_is resting.rest

    pub is_over : (rest : List Entry) × (t.past ≡ rest ++ first.past) × IsRundown first.config first.past rest
    is_over = (
      down.on.front.rest,
      resting.none_made ∙ down.on.front.is,
      record {
        control = c;
        told = down.on.told;
        reached = subst (λ (p : List Entry). IsReached first.config first.past (at_slot 0 0 false) down.on.told p c) down.on.front.is down.on.reached;
        rests = subst (λ (p : List Entry). Rests first.config p c) down.on.front.is rests_there;
      },
    )

-- ---- one move more
module _ (tells : Bool) (first s t : History) (at : CleaningIs) (next : ControlIs) (down : IsRunningDown tells first s (control (cleaning at))) (moved : IsMoved tells s t (move_of s.config s.past (control (cleaning at))) next) where
  made_move : IsMove first.config s.past (control (cleaning at)) moved.heard t.past next
  made_move = subst (λ (k : Config). IsMove k s.past (control (cleaning at)) moved.heard t.past next) (config_is tells first s (control (cleaning at)) down) moved.made

  pub further_down : IsRun t.config t.past → IsRunningDown tells first t next
  further_down run = record {
    same = same_then first s t down.same moved.same;
    on = one_on first.config first.past s.past at down.on moved.heard t.past next made_move (subst (λ (k : Config). IsRun k t.past) (ap (λ (x : History). x.config) (same_then first s t down.same moved.same)) run);
    right = λ told right. moved.right told (down.right told right);
  }

  pub further_longer : length s.past < length t.past
  further_longer = longer first.config first.past s.past at down.on moved.heard t.past next made_move
