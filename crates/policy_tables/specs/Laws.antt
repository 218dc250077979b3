-- The laws of the tables, as statements: what the policy gives is what its tables say. This project's own.
use Rattle.std.specs.Prelude.{◌≡◌, ℕ, ◌<◌, List, Some, length}
use Rattle.vm_types.specs.declared.config.Config.{Config}
use Rattle.vm_types.specs.declared.reference.Ref.{Ref}
use Rattle.vm_types.specs.declared.reply.Reply.{Reply}
use Rattle.vm_types.specs.declared.service.Service.{Service}
use Rattle.vm_types.specs.declared.config.Task.{Task}
use Rattle.vm_journal.specs.declared.entry.Entry.{Entry}
use Rattle.pager_model.specs.Pager.{Pager}
use Rattle.pager_model.specs.Spoken.{flat_after}
use Rattle.pager_model.specs.Run.{pager_after}
use Rattle.pager_policy.specs.Advance.{advance_gives}
use Rattle.pager_policy.specs.Serve.{serve_gives}
use Rattle.pager_policy.specs.Swap.{come_gives, leave_gives}
use Rattle.pager_policy.specs.WriteCluster.{Reason, begin_gives}
use Rattle.pager_policy.specs.Cleaning.{Cleaning}
use Rattle.pager_policy.specs.Rundown.{cleaning_move}
use Rattle.pager_policy.specs.Moves.{Control}
use Rattle.pager_policy.specs.Policy.{move_of, next_task}
use Rattle.policy_tables.specs.AdvanceCases.{advance_cases}
use Rattle.policy_tables.specs.Rows.{first_case}
use Rattle.policy_tables.specs.Words.{shown, told}
use Rattle.policy_tables.specs.ServeCases.{serve_cases}
use Rattle.policy_tables.specs.BeginCases.{begin_cases}
use Rattle.policy_tables.specs.LeaveCases.{leave_cases}
use Rattle.policy_tables.specs.ComeCases.{come_cases}
use Rattle.policy_tables.specs.RundownCases.{rundown_cases}
use Rattle.policy_tables.specs.MoveCases.{move_cases}

-- what is made for a reference of a process is the first row that holds, whatever reply its answer shows; the flat
-- machine has to have the pager's mappings, as it has in each run
abbrev pub ReferencesGoByCases : Type 0
ReferencesGoByCases =
    (config : Config) (past : List Entry) (a : Pager) (p : ℕ) (r : Ref) (reply : Reply) → p < length config.procs → a.map ≡ (flat_after config past).map
    → first_case (advance_cases config past a p r reply) ≡ Some (shown reply (advance_gives config past a p r))

-- what is made for a service is the first row that holds
abbrev pub ServicesGoByCases : Type 0
ServicesGoByCases = (config : Config) (past : List Entry) (a : Pager) (p : ℕ) (s : Service) → first_case (serve_cases config past a p s) ≡ Some (serve_gives config past a p s)

-- what a write cluster of the modified page writer makes, for either reason, is the first row that holds
abbrev pub ClustersGoByCases : Type 0
ClustersGoByCases = (config : Config) (a : Pager) (reason : Reason) → first_case (begin_cases config a reason) ≡ Some (begin_gives config a reason)

-- what a step of a process that leaves makes is the first row that holds
abbrev pub LeavingGoesByCases : Type 0
LeavingGoesByCases = (config : Config) (past : List Entry) (a : Pager) (p : ℕ) → first_case (leave_cases config past a p) ≡ Some (leave_gives config past a p)

-- what a step of a process that comes makes is the first row that holds
abbrev pub ComingGoesByCases : Type 0
ComingGoesByCases = (config : Config) (past : List Entry) (a : Pager) (p : ℕ) → first_case (come_cases config past a p) ≡ Some (come_gives config past a p)

-- each move of the rundown is the first row that holds
abbrev pub RundownGoesByCases : Type 0
RundownGoesByCases = (config : Config) (past : List Entry) (a : Pager) (at : Cleaning) → first_case (rundown_cases config past a at) ≡ Some (cleaning_move config past a at)

-- each move of the serial policy is the first row that holds, whatever reply its answer shows; the next request has to
-- be of a process of the configuration and the flat machine to have the pager's mappings, as in each run
abbrev pub MovesGoByCases : Type 0
MovesGoByCases =
    (config : Config) (past : List Entry) (c : Control) (reply : Reply) → ((task : Task) → next_task config past ≡ Some task → (task.proc).0 < length config.procs) → (pager_after config past).map ≡ (flat_after config past).map
    → first_case (move_cases config past (pager_after config past) reply c) ≡ Some (told reply (move_of config past c))
