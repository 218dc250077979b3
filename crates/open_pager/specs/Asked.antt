-- What a request does to an open pager. This project's own.
use Rattle.std.specs.Prelude.{◌≡◌, true, false, List, ◌++◌}
use Rattle.vm_types.specs.declared.config.Task.{Task}
use Rattle.vm_journal.specs.declared.entry.Entry.{Entry}
use Rattle.pager_policy.specs.Moves.{Control as ControlIs}
use Rattle.pager_policy.specs.Serial.{IsSerial}
use Rattle.pager_laws.specs.Bodies.{MayBeAdded, with_task}
use Rattle.lift_carriers.specs.CarrierView.{CarrierView}
use Rattle.vm_state.specs.History.{History}
use Rattle.serial_moves.specs.Controls.{control_in}
use Rattle.open_pager.specs.LastAnswer.{IsAnsweredLast}
use Rattle.open_pager.specs.Open.{HasMoved, IsWaiting, OpenView}
use Rattle.open_pager.specs.Requests.{HasCause}
use Rattle.open_pager.specs.declared.faults.AskFault.{AskFault}
use Rattle.open_pager.specs.declared.faults.AskFault.TheVariants as ask

-- but for the spare places the history is the same
abbrev pub IsSameButSpare : History → History → Type 0
IsSameButSpare before after = after ≡ record before { spare = after.spare }

-- but for the entries and the spare places it is that of the longer body
abbrev pub IsSameWith : Task → History → History → Type 0
IsSameWith task before after = after ≡ record before { config = with_task before.config task; past = after.past; spare = after.spare }

-- the request stands behind the body, the policy has moved on from where it was until it waits again, its entries came
-- behind those that there were, and the newest answer to the request's process is to this request
pub record IsAskedBy (before : History) (c : ControlIs) (task : Task) (after : History) (next : ControlIs) : Type 0 where
  pub same : IsSameWith task before after
  pub moved : HasMoved after.config before.past c after.past next
  pub made : List Entry
  pub all : after.past ≡ made ++ before.past
  pub answer : IsAnsweredLast (task.proc).0 after.past task.request
  pub waits : IsWaiting after next

-- the request could be added, and what was made so far is the serial run of the requests so far
pub record IsAskedNow (before : OpenView) (task : Task) (after : OpenView) : Type 0 where
  pub may : MayBeAdded before.history.config task
  pub went_on : before.stopped ≡ false
  pub goes_on : after.stopped ≡ false
  pub taken : after.taken ≡ before.taken
  pub asked : IsAskedBy before.history (control_in before.control) task after.history (control_in after.control)
  pub serial : IsSerial after.history.config after.history.past

-- what is left of a state and its carriers where a request that may be added isn't asked to its end
abbrev pub IsLeftBy : {B : Type 0} → History → List (CarrierView B) → History → List (CarrierView B) → AskFault → Type 0
IsLeftBy s carriers t others ask.NoMemory = IsSameButSpare s t × (others ≡ carriers)
IsLeftBy s carriers t others ask.Stopped = Unit {0}
IsLeftBy s carriers t others fault = ⊥

-- each fault has its cause; nothing has changed but the spare places, unless memory ran out amid the moves
abbrev pub IsRefused : OpenView → Task → OpenView → AskFault → Type 0
IsRefused before task after ask.NoMemory =
    MayBeAdded before.history.config task × IsSameButSpare before.history after.history × (after ≡ record before { history = after.history }) × (before.stopped ≡ false)
IsRefused before task after ask.Stopped = (after.stopped ≡ true) × (before.stopped ≡ true → after ≡ before) × (before.stopped ≡ false → MayBeAdded before.history.config task)
IsRefused before task after fault = (after ≡ before) × (before.stopped ≡ false) × HasCause before.history.config task fault
