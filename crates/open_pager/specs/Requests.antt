-- Why a request can't be asked. This project's own.
use Rattle.std.specs.Prelude.{◌≤◌, length}
use Rattle.vm_types.specs.Versions.{most_requests}
use Rattle.vm_types.specs.WellFormed.{IsRequestOf, IsWellFormedRequest}
use Rattle.vm_types.specs.declared.config.Config.{Config}
use Rattle.vm_types.specs.declared.config.Task.{Task}
use Rattle.open_pager.specs.declared.faults.AskFault.{AskFault}
use Rattle.open_pager.specs.declared.faults.AskFault.TheVariants as ask

-- the cause of a fault that the request itself has; the others are not of this kind
abbrev pub HasCause : Config → Task → AskFault → Type 0
HasCause config task ask.NoProcess = length config.procs ≤ (task.proc).0
HasCause config task ask.NotFormed = IsWellFormedRequest task.request → ⊥
HasCause config task ask.NotOfVersion = IsRequestOf config.version task.request → ⊥
HasCause config task ask.Full = most_requests config.version ≤ length config.body
HasCause config task ask.NoMemory = ⊥
HasCause config task ask.Stopped = ⊥
