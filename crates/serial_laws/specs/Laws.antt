-- The laws of the serial policy's moves, as statements. This project's own.
use Rattle.std.specs.Prelude.{◌≡◌, ℕ, Bool, false, ◌+◌, ◌<◌, ◌≤◌, List, [], ◌∷◌, Some, None, length}
use Rattle.vm_types.specs.Configuration.{IsWellFormed}
use Rattle.vm_types.specs.WellFormed.{IsRequestOf, IsWellFormedRequest}
use Rattle.vm_types.specs.declared.config.Config.{Config}
use Rattle.vm_types.specs.declared.config.Task.{Task}
use Rattle.vm_types.specs.declared.names.Proc.{Proc}
use Rattle.vm_types.specs.declared.names.ProcStatus.{ProcStatus}
use Rattle.vm_journal.specs.declared.entry.Entry.{Entry}
use Rattle.vm_journal.specs.declared.entry.What.{What}
use Rattle.vm_journal.specs.declared.entry.What.TheVariants as what
use Rattle.pager_policy.specs.Given.{by_seat, made_by}
use Rattle.pager_policy.specs.Landings.{Outcome, all_bad, first_bad, landed_by}
use Rattle.pager_model.specs.Flights.{carrier_of}
use Rattle.pager_policy.specs.Moves.{After, Control, asking, carries, control, makes, refuses, rests}
use Rattle.pager_policy.specs.Policy.{move_of, next_task}
use Rattle.pager_model.specs.Run.{IsRun, pager_after}
use Rattle.pager_policy.specs.Rundown.{at_slot}
use Rattle.pager_policy.specs.Serial.{Heard, IsMove, refusal_of}
use Rattle.pager_model.specs.Step.{IsLegal}
use Rattle.call_laws.specs.Ready.{MayWork}
use Rattle.serial_laws.specs.Between.{IsBetween}
use Rattle.serial_laws.specs.Controlled.{IsControlled, IsInBody}

-- before the first request, and where the rundown begins, the policy is where it fits
abbrev pub FirstControlFits : Type 0
FirstControlFits = (config : Config) → IsWellFormed config → IsControlled config [] (control asking)

abbrev pub CleaningControlFits : Type 0
CleaningControlFits = (config : Config) (past : List Entry) → IsControlled config past (at_slot 0 0 false)

-- the next task's process is one of the configuration, and its request is well formed and of its version
abbrev pub TaskIsFormed : Type 0
TaskIsFormed =
    (config : Config) (past : List Entry) (task : Task) → IsWellFormed config → next_task config past ≡ Some task
    → ((task.proc).0 < length config.procs) × IsWellFormedRequest task.request × IsRequestOf config.version task.request

-- the policy rests only where no request is left
abbrev pub RestsAtTheEnd : Type 0
RestsAtTheEnd =
    (config : Config) (past : List Entry) (c : Control) → IsBetween config past → IsControlled config past c → IsInBody c.doing
    → move_of config past c ≡ rests → next_task config past ≡ None

-- a move leads from where the policy fits to where it fits
abbrev pub MovesKeep : Type 0
MovesKeep =
    (config : Config) (past : List Entry) (c : Control) (heard : Heard) (more : List Entry) (next : Control) → IsBetween config past → IsControlled config past c
    → IsMove config past c heard more next → IsControlled config more next

-- after it no flight is open and no reuse is due, if its entries were legal
abbrev pub MovesStayBetween : Type 0
MovesStayBetween =
    (config : Config) (past : List Entry) (c : Control) (heard : Heard) (more : List Entry) (next : Control) → IsBetween config past → IsControlled config past c
    → IsMove config past c heard more next → IsRun config more → IsBetween config more

-- and so once its flights have landed
abbrev pub CarriersStayBetween : Type 0
CarriersStayBetween =
    (config : Config) (past : List Entry) (c : Control) (seat : ℕ) (ws : List What) (onward : Bool → Bool → After) (outcomes : List Outcome) (landed : List Entry) → IsBetween config past → IsControlled config past c
    → move_of config past c ≡ carries seat ws onward → length outcomes ≡ length (carrier_of seat (made_by seat ws past))
    → landed ≡ landed_by config seat (carrier_of seat (made_by seat ws past)) outcomes (made_by seat ws past) → IsRun config landed → IsBetween config landed

-- a request that a carrier's failure refuses is refused legally, by the carrier's seat
pub record IsRefusedLegally (config : Config) (past : List Entry) (seat : ℕ) : Type 0 where
  pub task : Task
  pub next : next_task config past ≡ Some task
  pub own : seat ≡ (task.proc).0
  pub legal : IsLegal config past (pager_after config past) (by_seat seat (refusal_of task))

abbrev pub RefusalIsLegal : Type 0
RefusalIsLegal =
    (config : Config) (past : List Entry) (c : Control) (seat : ℕ) (ws : List What) (onward : Bool → Bool → After) (outcomes : List Outcome) (landed : List Entry) → IsBetween config past → IsControlled config past c → IsInBody c.doing
    → move_of config past c ≡ carries seat ws onward → length outcomes ≡ length (carrier_of seat (made_by seat ws past))
    → landed ≡ landed_by config seat (carrier_of seat (made_by seat ws past)) outcomes (made_by seat ws past) → IsBetween config landed
    → onward (all_bad outcomes) (first_bad outcomes) ≡ refuses → IsRefusedLegally config landed seat

-- a turn that the policy makes is legal
abbrev pub MadeTurnsAreLegal : Type 0
MadeTurnsAreLegal =
    (config : Config) (past : List Entry) (c : Control) (seat : ℕ) (q : Proc) (s : ProcStatus) (next : Control) → IsBetween config past → IsControlled config past c
    → move_of config past c ≡ makes seat (what.Turn q s ∷ []) next → IsLegal config past (pager_after config past) (by_seat seat (what.Turn q s))

-- between two moves each seat may begin its work
abbrev pub SeatsMayWork : Type 0
SeatsMayWork = (config : Config) (past : List Entry) (seat : ℕ) → IsBetween config past → seat ≤ length config.procs + 1 → MayWork config past seat

-- each move makes the past longer
abbrev pub MovesAddEntries : Type 0
MovesAddEntries =
    (config : Config) (past : List Entry) (c : Control) (heard : Heard) (more : List Entry) (next : Control) → IsBetween config past → IsControlled config past c
    → IsMove config past c heard more next → length past < length more
