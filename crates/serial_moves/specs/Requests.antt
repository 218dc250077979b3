-- What is mostly asked for, and the moves for a request whose process is not in memory, or lacks a frame. This project's own.
use Rattle.std.specs.Prelude.{◌≡◌, ℕ, ◌<◌, Option, Some, None, IfSome, length}
use Rattle.vm_types.specs.WellFormed.{IsRequestOf, IsWellFormedRequest}
use Rattle.vm_types.specs.declared.config.Task.{Task}
use Rattle.vm_types.specs.declared.names.Proc.{Proc}
use Rattle.vm_types.specs.declared.names.ProcStatus.TheVariants as status
use Rattle.vm_types.specs.declared.reference.Ref.{Ref}
use Rattle.vm_types.specs.declared.service.Request.{Request}
use Rattle.vm_types.specs.declared.service.Request.TheVariants as request
use Rattle.pager_policy.specs.Moves.{Move, asking, rests}
use Rattle.pager_policy.specs.Policy.{asked_move, come_move_by, ends_request, finding_move, next_task, resident_move}
use Rattle.pager_policy.specs.Swap.{come_gives}
use Rattle.vm_state.specs.History.{History, pager}
use Rattle.lift_carriers.specs.CarrierView.{CarrierView}
use Rattle.serial_laws.specs.Controlled.{IsLeft}
use Rattle.serial_moves.specs.Carriers.{MayMove}
use Rattle.carried_landings.specs.Moved.{IsMoveHere}

-- the process comes back
abbrev pub come_move : History → ℕ → Move
come_move s p = come_move_by s.config s.past (pager s) p (come_gives s.config s.past (pager s) p).made (come_gives s.config s.past (pager s) p).answer

-- it is resident, and asks for this
abbrev pub resident_for : History → ℕ → Request → Move
resident_for s p asked = resident_move s.config s.past (pager s) p asked

-- it asks for this, after this one that is being left
abbrev pub asked_for : History → Option ℕ → Task → Move
asked_for s leaving task = asked_move s.config s.past (pager s) leaving (task.proc).0 task.request

-- a frame is found for it
abbrev pub finding_for : History → ℕ → Move
finding_for s p = finding_move s.config s.past (pager s) p p ends_request asking rests

-- nothing is left, the process is resident, and it makes this reference
pub record IsResidentReference (s : History) (leaving : Option Proc) (task : Task) (r : Ref) : Type 0 where
  pub none_left : leaving ≡ None
  pub resident : (pager s).status (task.proc).0 ≡ status.Resident
  pub asked : task.request ≡ request.Reference r

-- it isn't a reference of a process that is resident
abbrev pub IsRare : History → Task → Type 0
IsRare s task = (pager s).status (task.proc).0 ≡ status.Resident → (r : Ref) → task.request ≡ request.Reference r → ⊥

-- this is next, and its process may ask for it, after this one that is being left: there is room, the request is of
-- the configuration, and the one that is left is leaving
pub record MayAskTask {B : Type 0} (s : History) (leaving : Option ℕ) (task : Task) (c : CarrierView B) : Type 0 where
  pub next : next_task s.config s.past ≡ Some task
  pub may : MayMove s (record { 0 = (task.proc).0 }) c
  pub process : (task.proc).0 < length s.config.procs
  pub formed : IsWellFormedRequest task.request
  pub known : IsRequestOf s.config.version task.request
  pub left : IfSome leaving (λ q. IsLeft s.config (pager s) q)
  pub here : IsMoveHere s (asked_for s leaving task)

-- what is next may be asked for, if anything is
abbrev pub MayAskNext : {B : Type 0} → History → Option ℕ → CarrierView B → Type 0
MayAskNext s leaving c = IfSome (next_task s.config s.past) (λ task. MayAskTask s leaving task c)

-- what is next isn't a reference of a process that is resident
abbrev pub IsNextRare : History → Type 0
IsNextRare s = IfSome (next_task s.config s.past) (λ task. IsRare s task)
