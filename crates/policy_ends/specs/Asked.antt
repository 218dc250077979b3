-- A pager that is asked one request at a time makes what the serial policy makes of the trace with these requests,
-- as statements. This project's own.
use Rattle.std.specs.Prelude.{◌≡◌, List, [], ◌∷◌, ◌++◌}
use Rattle.vm_types.specs.Configuration.{IsWellFormed}
use Rattle.vm_types.specs.declared.config.Config.{Config}
use Rattle.vm_types.specs.declared.config.Task.{Task}
use Rattle.vm_journal.specs.declared.entry.Entry.{Entry}
use Rattle.pager_model.specs.Run.{IsRun}
use Rattle.pager_model.specs.Spoken.{IsRight}
use Rattle.pager_policy.specs.Moves.{Control, asking, control}
use Rattle.pager_policy.specs.Serial.{Heard, IsReached, IsSerial, IsSerialTo, Rests}
use Rattle.call_laws.specs.SerialOrder.{all_told}
use Rattle.pager_laws.specs.Bodies.{with_body, with_task}

-- a request is added behind the body, the policy makes moves until it rests, and then the later requests are asked;
-- told is what all these moves were told, the newest first
pub record IsAskedFirst (config : Config) (task : Task) (Later : List Entry → Control → List Heard → Type 0) (past : List Entry) (c : Control) (told : List Heard) : Type 0 where
  pub now : List Heard
  pub afterwards : List Heard
  pub all : told ≡ afterwards ++ now
  pub answered_past : List Entry
  pub answered_control : Control
  pub moves : IsReached (with_task config task) past c now answered_past answered_control
  pub rests : Rests (with_task config task) answered_past answered_control
  pub later : Later answered_past answered_control afterwards

-- requests are asked one at a time, from a past on, and lead to a longer one
abbrev pub AreAsked : Config → List Task → List Entry → Control → List Heard → List Entry → Control → Type 0
AreAsked config [] past c told more next = (more ≡ past) × (next ≡ c) × (told ≡ [])
AreAsked config (task ∷ tasks) past c told more next =
    IsAskedFirst config task (λ (answered : List Entry) (place : Control) (later : List Heard). AreAsked (with_task config task) tasks answered place later more next) past c told

-- the configuration's own requests, from the opening and no request on
abbrev pub IsAskedTo : Config → List Heard → List Entry → Control → Type 0
IsAskedTo config told past c = AreAsked (with_body config []) config.body [] (control asking) told past c

-- what is made of them is what the policy leads to under the whole body, told the same, and there it rests
pub record IsLedTo (config : Config) (told : List Heard) (past : List Entry) (c : Control) : Type 0 where
  pub reached : IsReached config [] (control asking) told past c
  pub rests : Rests config past c

abbrev pub AskedIsReached : Type 0
AskedIsReached = (config : Config) (told : List Heard) (past : List Entry) (c : Control) → IsAskedTo config told past c → IsLedTo config told past c

-- a run that is asked so is a serial journal: no request is left
abbrev pub AskedIsSerial : Type 0
AskedIsSerial =
    (config : Config) (told : List Heard) (past : List Entry) (c : Control) → IsWellFormed config → IsRun config past → IsAskedTo config told past c
    → IsSerial config past

-- and it has the entries of each serial journal that was told the same outcomes, if the values of both are right
abbrev pub AskedIsOne : Type 0
AskedIsOne =
    (config : Config) (told : List Heard) (past other : List Entry) (c d : Control) → IsAskedTo config told past c → (serial : IsSerialTo config other d)
    → Rests config other d → IsRight config past → IsRight config other → all_told told ≡ all_told serial.told → past ≡ other
