-- What a condition that doesn't hold states of a process, of its working set and of a frame. This project's own.
use Rattle.std.specs.Prelude.{◌≡◌, ◌⊎◌, ℕ, ◌≤◌, Some, length, slice_get}
use Rattle.vm_types.specs.Ring.{filled}
use Rattle.vm_types.specs.declared.names.ProcStatus.TheVariants as status
use Rattle.vm_types.specs.declared.config.Config.{Config}
use Rattle.pager_model.specs.Lookups.{IsHead}
use Rattle.pager_model.specs.Pager.{Pager}
use Rattle.log_reasons.specs.declared.reason.Reason.{Reason}
use Rattle.log_reasons.specs.declared.reason.Reason.TheVariants.{NoSuchProcess, NotResident, CountAtLimit, NotAtFreeHead, FrameNotEmpty}

-- there is such a process, and it is resident
abbrev pub OwnFails : Config → Pager → ℕ → Reason → Type 0
OwnFails config a p (NoSuchProcess n) = (n ≡ length config.procs) × (n ≤ p)
OwnFails config a p (NotResident s) = (a.status p ≡ s) × (s ≡ status.Resident → ⊥)
OwnFails config a p other = ⊥

-- it has room below its limit
abbrev pub RoomFails : Pager → ℕ → Reason → Type 0
RoomFails a p (CountAtLimit count limit) = (count ≡ filled (a.ring p).slots) × (limit ≡ a.limit p) × (limit ≤ count)
RoomFails a p other = ⊥

-- the frame heads the free list, and is empty
abbrev pub EmptyHeadFails : Pager → ℕ → Reason → Type 0
EmptyHeadFails a f (NotAtFreeHead head) = (head ≡ slice_get a.free 0) × (IsHead a.free f → ⊥)
EmptyHeadFails a f (FrameNotEmpty page) = a.page f ≡ Some page
EmptyHeadFails a f other = ⊥
