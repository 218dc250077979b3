-- The moves of the body one after another.
use Rattle.std.proofs.Common.{◌≡◌, ◌<◌, ◌+◌, Bool, true, List, [], ◌∷◌, length, refl, sym, ap, ◌∙◌, subst}
use Rattle.vm_types.specs.declared.config.Config.{Config}
use Rattle.vm_types.specs.Configuration.{IsWellFormed}
use Rattle.vm_journal.specs.declared.entry.Entry.{Entry}
use Rattle.pager_policy.specs.Moves.{Control as ControlIs, asking, control}
use Rattle.pager_policy.specs.Policy.{move_of}
use Rattle.pager_model.specs.Run.{IsRun}
use Rattle.pager_policy.specs.Serial.{IsMove, IsSerial, IsSerialTo}
use Rattle.pager_model.specs.Spoken.{IsRight}
use Rattle.serial_laws.specs.Between.{IsBetween}
use Rattle.serial_laws.specs.Controlled.{IsControlled, IsInBody}
use Rattle.serial_laws.proofs.Kept.{moves_between, moves_fit, moves_longer, rests_last}
use Rattle.lift_carriers.specs.CarrierView.{CarrierView}
use Rattle.vm_state.specs.History.{History}
use Rattle.carried_landings.specs.Moved.{IsMoved, IsResting, IsSameBut}
use Rattle.carried_landings.proofs.Moving.{same_then}
use Rattle.serial_moves.specs.Carriers.{AreIdle}
use Rattle.serial_moves.specs.Controls.{doing_in}
use Rattle.serial_moves.specs.declared.control.Doing.{Doing}
use Rattle.serial_moves.specs.declared.control.Doing.TheVariants.{Asking, Freeing, Saving}

-- the code's places are all in the body
pub in_body : (d : Doing) → IsInBody (doing_in d)
in_body Asking = tt
in_body (Saving begun p) = tt
in_body (Freeing begun p) = tt

-- between two moves of the body, which began at this history
pub record IsOnItsWay (tells : Bool) (first s : History) (c : ControlIs) : Type 0 where
  pub between : IsBetween s.config s.past
  pub fits : IsControlled s.config s.past c
  pub same : IsSameBut first s
  pub serial : IsSerialTo s.config s.past c
  pub right : tells ≡ true → IsRight s.config s.past

-- the carriers are those of the same seats
pub still_idle : {B : Type 0} (first s : History) (before now : List (CarrierView B)) → IsSameBut first s → now ≡ before → AreIdle first before → AreIdle s now
still_idle first s before now same is idle =
    subst (λ (cs : List (CarrierView _)). AreIdle s cs) (sym is)
    (record { count = idle.count ∙ ap (λ (x : History). length x.config.procs + 2) (sym same); each = idle.each })

-- nothing was done yet
pub at_first : (tells : Bool) (s : History) → s.past ≡ [] → IsWellFormed s.config → ((config : Config) → IsWellFormed config → IsControlled config [] (control asking)) → IsOnItsWay tells s s (control asking)
at_first tells s none formed fits = record {
  between = subst (IsBetween s.config) (sym none) (record { formed = formed; run = tt; landed = refl; reused = refl });
  fits = subst (λ (p : List Entry). IsControlled s.config p (control asking)) (sym none) (fits s.config formed);
  same = refl;
  serial = record { told = []; reached = (none, refl) };
  right = λ told. subst (IsRight s.config) (sym none) tt;
}

module _ (tells : Bool) (first s t : History) (c : ControlIs) (way : IsOnItsWay tells first s c) where
  -- after a move
  module _ (next : ControlIs) (moved : IsMoved tells s t (move_of s.config s.past c) next) where
    config_is : t.config ≡ s.config
    config_is = ap (λ (x : History). x.config) moved.same

    the_move : IsMove s.config s.past c moved.heard t.past next
    the_move = moved.made

    pub goes_on : IsRun t.config t.past → IsOnItsWay tells first t next
    goes_on run = record {
      between = subst (λ (k : Config). IsBetween k t.past) (sym config_is) (moves_between s.config s.past c moved.heard t.past next way.between way.fits the_move (subst (λ (k : Config). IsRun k t.past) config_is run));
      fits = subst (λ (k : Config). IsControlled k t.past next) (sym config_is) (moves_fit s.config s.past c moved.heard t.past next way.between way.fits the_move);
      same = same_then first s t way.same moved.same;
      serial = subst (λ (k : Config). IsSerialTo k t.past next) (sym config_is) (record {
        told = moved.heard ∷ (way.serial).told;
        reached = record { earlier_past = s.past; earlier_control = c; before = (way.serial).reached; move = the_move };
      });
      right = λ told. moved.right told (way.right told);
    }

    pub is_longer : length s.past < length t.past
    is_longer = moves_longer s.config s.past c moved.heard t.past next way.between way.fits the_move

  -- where the policy rests
  module _ (body : IsInBody c.doing) (rest : IsResting s t (move_of s.config s.past c)) where
    at_rest : t ≡ record t { config = s.config; past = s.past }
    at_rest = λ i. record t { config = ap (λ (x : History). x.config) rest.same i; past = rest.none_made i }

    pub rests_there : IsSerial t.config t.past
    rests_there =
        subst (λ (x : History). IsSerial x.config x.past) (sym at_rest)
        (record { control = c; reached = way.serial; none_left = rests_last s.config s.past c way.between way.fits body rest.rest; rests = rest.rest })

    pub rests_between : IsBetween t.config t.past
    rests_between = subst (λ (x : History). IsBetween x.config x.past) (sym at_rest) way.between

    pub rests_right : tells ≡ true → IsRight t.config t.past
    rests_right told = subst (λ (x : History). IsRight x.config x.past) (sym at_rest) (way.right told)

    pub rests_same : IsSameBut first t
    rests_same = same_then first s t way.same rest.same
