-- A process that is alone in memory. Source: the choice of a process to swap out by Kenah and Bate, "VAX/VMS
-- Internals and Data Structures", the swapper; that one alone finds a frame is this project's own rule.
use Rattle.std.specs.Prelude.{◌≡◌, ℕ, [], List}
use Rattle.vm_types.specs.Configuration.{IsWellFormed}
use Rattle.vm_types.specs.declared.config.Config.{Config}
use Rattle.vm_types.specs.declared.names.ProcStatus.TheVariants as status
use Rattle.vm_journal.specs.declared.entry.Entry.{Entry}
use Rattle.pager_model.specs.Flights.{awaits_reuse, open_flights}
use Rattle.pager_model.specs.Pager.{Pager}
use Rattle.pager_model.specs.Run.{IsRun, pager_after}
use Rattle.std.specs.Prelude.{◌<◌, length, false}

-- each other process of the configuration is gone
abbrev pub IsAlone : Config → Pager → ℕ → Type 0
IsAlone config a p = (q : ℕ) → q < length config.procs → (q ≡ p → ⊥) → a.status q ≡ status.Gone

-- along each run: when no transfer is open and no reuse is due, a process alone in memory finds a free page or a
-- modified one
abbrev pub AloneFindsAPage : Type 0
AloneFindsAPage =
    (config : Config) (past : List Entry) (p : ℕ) → IsWellFormed config → IsRun config past → p < length config.procs → open_flights past ≡ [] → awaits_reuse past ≡ false → IsAlone config (pager_after config past) p
    → (pager_after config past).free ≡ [] → (pager_after config past).modified ≡ [] → ⊥
