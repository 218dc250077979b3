-- Each move of a run is the first row of the tables that holds.
use Rattle.std.proofs.Common.{List, [], ◌∷◌}
use Rattle.vm_types.specs.Configuration.{IsWellFormed}
use Rattle.vm_types.specs.declared.config.Config.{Config}
use Rattle.vm_types.specs.declared.reply.Reply.{Reply}
use Rattle.vm_journal.specs.declared.entry.Entry.{Entry}
use Rattle.pager_model.specs.Run.{IsRun}
use Rattle.pager_policy.specs.Moves.{Control}
use Rattle.pager_policy.specs.Policy.{move_of}
use Rattle.pager_policy.specs.Serial.{Heard, IsReached}
use Rattle.pager_laws.proofs.FlatFollows.{follows}
use Rattle.policy_tables.proofs.ByMove.{goes_by_cases}
use Rattle.serial_laws.proofs.Walks.{task_formed}
use Rattle.policy_ends.specs.ByTables.{AreFirstRows, IsFirstRow}
use Rattle.policy_ends.proofs.Chains.{move_before}

pub first_row : (config : Config) (past : List Entry) (reply : Reply) (c : Control) → IsWellFormed config → IsRun config past → IsFirstRow config past reply c
first_row config past reply c formed run = goes_by_cases config past reply (λ task next. (task_formed config past task formed next).0) (follows config past formed run).map c

pub first_rows : (config : Config) (start : List Entry) (from : Control) (hearings : List Heard) (past : List Entry) (c : Control) → IsWellFormed config → IsRun config past
    → (reached : IsReached config start from hearings past c) → AreFirstRows config start from hearings past c reached
first_rows config start from [] past c formed run reached = tt
first_rows config start from (heard ∷ hearings) past c formed run reached =
    let early = reached.earlier_past in
    let at = reached.earlier_control in
    let ran = move_before config early heard past c (move_of config early at) reached.move run in
    (first_row config early heard.reply at formed ran, first_rows config start from hearings early at formed ran reached.before)
