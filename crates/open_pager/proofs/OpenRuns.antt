-- The moves of an open pager one after another, and where it waits.
use Rattle.std.proofs.Common.{◌≡◌, ◌<◌, ◌+◌, Bool, true, false, List, [], ◌∷◌, length, refl, sym, ap, ◌∙◌, subst}
use Rattle.vm_types.specs.declared.config.Config.{Config}
use Rattle.vm_types.specs.Configuration.{IsWellFormed}
use Rattle.vm_journal.specs.declared.entry.Entry.{Entry}
use Rattle.pager_model.specs.Flights.{open_flights}
use Rattle.pager_model.specs.Run.{IsRun}
use Rattle.pager_policy.specs.Moves.{Control as ControlIs, asking, control}
use Rattle.pager_policy.specs.Policy.{move_of}
use Rattle.pager_policy.specs.Serial.{IsMove, IsSerial, IsSerialTo}
use Rattle.serial_laws.specs.Between.{IsBetween}
use Rattle.serial_laws.specs.Controlled.{IsControlled, IsInBody}
use Rattle.serial_laws.proofs.Kept.{moves_between, moves_fit, moves_longer, rests_last}
use Rattle.vm_state.specs.History.{History}
use Rattle.carried_landings.specs.Moved.{IsMoved, IsResting, IsSameBut}
use Rattle.lift_carriers.specs.CarrierView.{CarrierView}
use Rattle.serial_moves.specs.Carriers.{AreIdle}
use Rattle.serial_moves.specs.Controls.{control_in}
use Rattle.serial_moves.specs.declared.control.Control.{Control}
use Rattle.open_pager.specs.Open.{HasMoved, IsKept, IsOpen, IsOpened, IsReady, IsWaiting}

-- no move was made yet
pub none_moved : (config : Config) (past : List Entry) (c : ControlIs) → HasMoved config past c past c
none_moved config past c = record { told = []; moves = (refl, refl) }

-- a history with this configuration and these entries
pub open_at : (t : History) (config : Config) (past : List Entry) (c : ControlIs) → t.config ≡ config → t.past ≡ past
    → IsBetween config past → IsControlled config past c → IsSerialTo config past c → IsOpen t c
open_at t config past c own same between fits serial = record {
  between = subst (λ (k : Config). IsBetween k t.past) (sym own) (subst (IsBetween config) (sym same) between);
  fits = subst (λ (k : Config). IsControlled k t.past c) (sym own) (subst (λ (p : List Entry). IsControlled config p c) (sym same) fits);
  serial = subst (λ (k : Config). IsSerialTo k t.past c) (sym own) (subst (λ (p : List Entry). IsSerialTo config p c) (sym same) serial);
}

-- before the first move
pub opens : (t : History) (config : Config) → t.config ≡ config → t.past ≡ [] → IsWellFormed config
    → ((k : Config) → IsWellFormed k → IsControlled k [] (control asking)) → IsOpen t (control asking)
opens t config own none formed fits =
    open_at t config [] (control asking) own none (record { formed = formed; run = tt; landed = refl; reused = refl }) (fits config formed)
    (record { told = []; reached = (refl, refl) })

-- after a move
module _ (tells : Bool) (s t : History) (c next : ControlIs) (moved : IsMoved tells s t (move_of s.config s.past c) next) where
  config_is : t.config ≡ s.config
  config_is = ap (λ (x : History). x.config) moved.same

  the_move : IsMove s.config s.past c moved.heard t.past next
  the_move = moved.made

  pub stays_open : IsOpen s c → IsRun t.config t.past → IsOpen t next
  stays_open there run =
      open_at t s.config t.past next config_is refl
      (moves_between s.config s.past c moved.heard t.past next there.between there.fits the_move (subst (λ (k : Config). IsRun k t.past) config_is run))
      (moves_fit s.config s.past c moved.heard t.past next there.between there.fits the_move)
      (record {
        told = moved.heard ∷ (there.serial).told;
        reached = record { earlier_past = s.past; earlier_control = c; before = (there.serial).reached; move = the_move };
      })

  pub moves_on : (past : List Entry) (from : ControlIs) → HasMoved s.config past from s.past c → HasMoved t.config past from t.past next
  moves_on past from before = subst (λ (k : Config). HasMoved k past from t.past next) (sym config_is) (record {
    told = moved.heard ∷ before.told;
    moves = record { earlier_past = s.past; earlier_control = c; before = before.moves; move = the_move };
  })

  pub grows : IsOpen s c → length s.past < length t.past
  grows there = moves_longer s.config s.past c moved.heard t.past next there.between there.fits the_move

-- where the policy rests
module _ (s t : History) (c : ControlIs) (rest : IsResting s t (move_of s.config s.past c)) where
  at_rest : t ≡ record t { config = s.config; past = s.past }
  at_rest = λ i. record t { config = ap (λ (x : History). x.config) rest.same i; past = rest.none_made i }

  pub waits_there : IsOpen s c → IsInBody c.doing → IsWaiting t c
  waits_there there body = subst (λ (x : History). IsWaiting x c) (sym at_rest) (record {
    open_there = record { between = there.between; fits = there.fits; serial = there.serial };
    rests = rest.rest;
    none_left = rests_last s.config s.past c there.between there.fits body rest.rest;
  })

  pub moved_there : (past : List Entry) (from : ControlIs) → HasMoved s.config past from s.past c → HasMoved t.config past from t.past c
  moved_there past from before = subst (λ (x : History). HasMoved x.config past from x.past c) (sym at_rest) (record { told = before.told; moves = before.moves })

-- what was made where it waits is a serial run
pub is_serial : (s : History) (c : ControlIs) → IsWaiting s c → IsSerial s.config s.past
is_serial s c waits = record { control = c; reached = (waits.open_there).serial; none_left = waits.none_left; rests = waits.rests }

-- where it waits for the first time
pub first_ready : {B : Type 0} (s u : History) (next : Control) (carriers others : List (CarrierView B)) → s.keeps ≡ true → IsSameBut s u → IsWaiting u (control_in next) → AreIdle s carriers → others ≡ carriers → IsReady u next others
first_ready {B} s u next carriers others keeps same waits idle is = record {
  waits = waits;
  idle = subst (AreIdle u) (sym is) (record { count = idle.count ∙ ap (λ (x : History). length x.config.procs + 2) (sym same); each = idle.each });
  keeps = ap (λ (x : History). x.keeps) same ∙ keeps;
}

pub is_opened : (config : Config) (s u : History) (c : Control) → s.config ≡ config → IsSameBut s u → IsWaiting u (control_in c)
    → IsOpened config (record { history = u; control = c; taken = 0; stopped = false })
is_opened config s u c own same waits =
    let config_is : u.config ≡ config = ap (λ (x : History). x.config) same ∙ own in
    record {
      same = config_is;
      none_taken = refl;
      goes_on = refl;
      serial = subst (λ (k : Config). IsSerial k u.past) config_is (is_serial u (control_in c) waits);
    }

-- unless it has stopped no transfer is open
pub landed_there : {B : Type 0} (s : History) (c : Control) (carriers : List (CarrierView B)) (stopped : Bool) → IsKept s c carriers stopped → stopped ≡ false → open_flights s.past ≡ []
landed_there s c carriers stopped kept going = ((kept going).waits.open_there).between.landed
