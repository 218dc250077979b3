-- The moves of a run, as rows of the tables. This project's own.
use Rattle.std.specs.Prelude.{◌≡◌, List, [], ◌∷◌, Some}
use Rattle.vm_types.specs.Configuration.{IsWellFormed}
use Rattle.vm_types.specs.declared.config.Config.{Config}
use Rattle.vm_types.specs.declared.reply.Reply.{Reply}
use Rattle.vm_journal.specs.declared.entry.Entry.{Entry}
use Rattle.pager_model.specs.Run.{IsRun, pager_after}
use Rattle.pager_policy.specs.Moves.{Control}
use Rattle.pager_policy.specs.Policy.{move_of}
use Rattle.pager_policy.specs.Serial.{Heard, IsReached}
use Rattle.policy_tables.specs.MoveCases.{move_cases}
use Rattle.policy_tables.specs.Rows.{first_case}
use Rattle.policy_tables.specs.Words.{told}

-- the policy's move here is the first row that holds, and this reply stands in a DONE that it makes
abbrev pub IsFirstRow : Config → List Entry → Reply → Control → Type 0
IsFirstRow config past reply c = first_case (move_cases config past (pager_after config past) reply c) ≡ Some (told reply (move_of config past c))

-- each of the moves that led to a past was the first row that holds, with the reply that it was told
abbrev pub AreFirstRows : (config : Config) (start : List Entry) (from : Control) (hearings : List Heard) (past : List Entry) (c : Control) → IsReached config start from hearings past c → Type 0
AreFirstRows config start from [] past c reached = Unit {0}
AreFirstRows config start from (heard ∷ hearings) past c reached =
    IsFirstRow config reached.earlier_past heard.reply reached.earlier_control × AreFirstRows config start from hearings reached.earlier_past reached.earlier_control reached.before

-- so it is in each run, in the body and in the rundown
abbrev pub MovesAreFirstRows : Type 0
MovesAreFirstRows = (config : Config) (past : List Entry) (reply : Reply) (c : Control) → IsWellFormed config → IsRun config past → IsFirstRow config past reply c

-- and along each run
abbrev pub SerialRunsGoByCases : Type 0
SerialRunsGoByCases =
    (config : Config) (start : List Entry) (from : Control) (hearings : List Heard) (past : List Entry) (c : Control) → IsWellFormed config → IsRun config past
    → (reached : IsReached config start from hearings past c) → AreFirstRows config start from hearings past c reached
