-- Where an open pager stands. This project's own.
use Rattle.std.specs.Prelude.{◌≡◌, ℕ, Bool, true, false, List, None}
use Rattle.vm_types.specs.declared.config.Config.{Config}
use Rattle.vm_journal.specs.declared.entry.Entry.{Entry}
use Rattle.pager_policy.specs.Moves.{Control as ControlIs}
use Rattle.pager_policy.specs.Policy.{next_task}
use Rattle.pager_policy.specs.Serial.{Heard, IsReached, IsSerial, IsSerialTo, Rests}
use Rattle.serial_laws.specs.Between.{IsBetween}
use Rattle.serial_laws.specs.Controlled.{IsControlled}
use Rattle.lift_carriers.specs.CarrierView.{CarrierView}
use Rattle.vm_state.specs.History.{History}
use Rattle.serial_moves.specs.Carriers.{AreIdle}
use Rattle.serial_moves.specs.Controls.{control_in}
use Rattle.serial_moves.specs.declared.control.Control.{Control}

-- the serial policy has led there from the opening on, between two moves
pub record IsOpen (s : History) (c : ControlIs) : Type 0 where
  pub between : IsBetween s.config s.past
  pub fits : IsControlled s.config s.past c
  pub serial : IsSerialTo s.config s.past c

-- it rests there, and no request is left
pub record IsWaiting (s : History) (c : ControlIs) : Type 0 where
  pub open_there : IsOpen s c
  pub rests : Rests s.config s.past c
  pub none_left : next_task s.config s.past ≡ None

-- the policy's moves lead from a past to a longer one
pub record HasMoved (config : Config) (past : List Entry) (c : ControlIs) (more : List Entry) (next : ControlIs) : Type 0 where
  pub told : List Heard
  pub moves : IsReached config past c told more next

-- an open pager as contracts see it: its history; where the policy is; how many of the entries were taken, the oldest
-- first; and whether it has stopped, for want of memory amid the moves of a request
pub record OpenView : Type 0 where
  pub history : History
  pub control : Control
  pub taken : ℕ
  pub stopped : Bool

-- it waits for a request, with the carriers of all seats at hand, and its entries are kept
pub record IsReady {B : Type 0} (s : History) (c : Control) (carriers : List (CarrierView B)) : Type 0 where
  pub waits : IsWaiting s (control_in c)
  pub idle : AreIdle s carriers
  pub keeps : s.keeps ≡ true

-- unless it has stopped
abbrev pub IsKept : {B : Type 0} → History → Control → List (CarrierView B) → Bool → Type 0
IsKept s c carriers stopped = stopped ≡ false → IsReady s c carriers

-- it was opened on this configuration, and waits: what was made is the serial run of its body
pub record IsOpened (config : Config) (p : OpenView) : Type 0 where
  pub same : p.history.config ≡ config
  pub none_taken : p.taken ≡ 0
  pub goes_on : p.stopped ≡ false
  pub serial : IsSerial config p.history.past
