-- What the serial policy does under a longer body, as statements: its moves are the same until the shorter body is
-- answered, and from there on it goes on to the new request where it would rest. This project's own.
use Rattle.std.specs.Prelude.{◌≡◌, ℕ, false, ◌<◌, List, Option, None, length}
use Rattle.vm_types.specs.Configuration.{IsWellFormed}
use Rattle.vm_types.specs.declared.config.Config.{Config}
use Rattle.vm_types.specs.declared.config.Task.{Task}
use Rattle.vm_journal.specs.declared.entry.Entry.{Entry}
use Rattle.pager_policy.specs.Moves.{Control, Doing, Move, asking, cleaning, freeing, rests, saving}
use Rattle.pager_policy.specs.Policy.{asked_move, move_of}
use Rattle.pager_policy.specs.Serial.{Heard, IsReached, IsSerialTo}
use Rattle.pager_model.specs.Run.{IsRun, pager_after}
use Rattle.pager_model.specs.Spoken.{spoken}
use Rattle.serial_laws.specs.Between.{IsBetween}
use Rattle.serial_laws.specs.Controlled.{IsControlled, IsInBody}
use Rattle.pager_laws.specs.Bodies.{MayBeAdded, has_rundown, with_task}

-- while a request of the shorter body is left, the moves are the same
abbrev pub MovesAreSame : Type 0
MovesAreSame =
    (config : Config) (task : Task) (past : List Entry) (c : Control) → spoken past < length config.body
    → move_of (with_task config task) past c ≡ move_of config past c

-- the process that is being left where the policy comes to a request: after an answer there is none
abbrev pub leaving_at : Control → Option ℕ
leaving_at c = by c.doing where
  by : Doing → Option ℕ
  by asking = c.leaving
  by (saving begun p) = None
  by (freeing begun p) = None
  by (cleaning at) = None

-- the move at a request that comes next
abbrev pub move_at : Config → Task → List Entry → Control → Move
move_at config task past c = asked_move config past (pager_after config past) (leaving_at c) (task.proc).0 task.request

-- where the policy makes a move, it is the same
abbrev pub MadeAreSame : Type 0
MadeAreSame =
    (config : Config) (task : Task) (past : List Entry) (c : Control) → (move_of config past c ≡ rests → ⊥)
    → move_of (with_task config task) past c ≡ move_of config past c

-- where it rests at the shorter body's end, before the rundown, it makes the new request's move
abbrev pub RestsGoOn : Type 0
RestsGoOn =
    (config : Config) (task : Task) (past : List Entry) (c : Control) → MayBeAdded config task → has_rundown past ≡ false
    → IsBetween config past → IsControlled config past c → IsInBody c.doing → spoken past ≡ length config.body
    → move_of config past c ≡ rests → move_of (with_task config task) past c ≡ move_at config task past c

-- so what the policy makes under the shorter body it makes under the longer one, told the same
abbrev pub MovesStay : Type 0
MovesStay =
    (config : Config) (task : Task) (start : List Entry) (from : Control) (told : List Heard) (past : List Entry) (c : Control)
    → IsReached config start from told past c → IsReached (with_task config task) start from told past c

-- and where it comes to, it fits the past under the longer body too
abbrev pub ControlStays : Type 0
ControlStays =
    (config : Config) (task : Task) (past : List Entry) (c : Control) → IsWellFormed config → IsRun config past → IsSerialTo config past c
    → IsControlled (with_task config task) past c

-- outside the rundown it makes none of the rundown's evictions
abbrev pub BodyHasNoRundown : Type 0
BodyHasNoRundown = (config : Config) (past : List Entry) (c : Control) → IsWellFormed config → IsRun config past → IsSerialTo config past c → has_rundown past ≡ false
