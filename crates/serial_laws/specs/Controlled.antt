-- Where the serial policy is fits the past. This project's own.
use Rattle.std.specs.Prelude.{◌≡◌, ◌⊎◌, ℕ, true, ◌<◌, List, Option, Some, None, length}
use Rattle.vm_types.specs.declared.names.Page.{Page}
use Rattle.vm_types.specs.declared.names.ProcStatus.TheVariants as status
use Rattle.vm_types.specs.declared.config.Config.{Config}
use Rattle.vm_types.specs.declared.config.Task.{Task}
use Rattle.vm_types.specs.declared.reference.Ref.{Ref}
use Rattle.vm_types.specs.declared.service.Request.{Request}
use Rattle.vm_types.specs.declared.service.Request.TheVariants as request
use Rattle.vm_journal.specs.declared.entry.Entry.{Entry}
use Rattle.pager_model.specs.Flat.{flat_refusal}
use Rattle.pager_model.specs.Lookups.{count_page, entries_at, entry_of, page_by}
use Rattle.pager_model.specs.Maps.{page_number}
use Rattle.pager_policy.specs.Moves.{Control, Doing, asking, cleaning, freeing, saving}
use Rattle.pager_model.specs.Pager.{Pager, Valid}
use Rattle.pager_policy.specs.Policy.{next_task}
use Rattle.pager_model.specs.Run.{pager_after}
use Rattle.pager_model.specs.Served.{may_fail}
use Rattle.pager_model.specs.Spoken.{flat_after}

-- the policy is at a request or in the work after an answer, so not in the rundown
abbrev pub IsInBody : Doing → Type 0
IsInBody (cleaning at) = ⊥
IsInBody other = Unit {0}

-- the process that is being left is one of the configuration, and is leaving
abbrev pub IsLeft : Config → Pager → ℕ → Type 0
IsLeft config a q = (q < length config.procs) × (a.status q ≡ status.Leaving)

-- the process that was answered is one of the configuration
abbrev pub IsAnsweredProcess : Config → Doing → Type 0
IsAnsweredProcess config asking = Unit {0}
IsAnsweredProcess config (saving begun p) = p < length config.procs
IsAnsweredProcess config (freeing begun p) = p < length config.procs
IsAnsweredProcess config (cleaning at) = Unit {0}

-- a request may be refused for a lost carrier: its page is mapped and its entry isn't valid, or it is a service
-- that may meet a failed transfer
abbrev pub IsUnmet : Config → Pager → ℕ → Request → Type 0
IsUnmet config a p (request.Reference r) = (g : Page) × (page_by config a.map p (page_number (r.addr).0) ≡ Some g) × (entries_at a.valid p (page_number (r.addr).0) ≡ 0)
IsUnmet config a p (request.Service s) = may_fail s ≡ true

-- or its process isn't resident
abbrev pub MayBeRefused : Config → Pager → Task → Type 0
MayBeRefused config a task = (a.status (task.proc).0 ≡ status.Resident → ⊥) ⊎ IsUnmet config a (task.proc).0 task.request

-- while a process is left for a request, that request may be refused
abbrev pub MayRefuseMeanwhile : Config → List Entry → Doing → Option ℕ → Type 0
MayRefuseMeanwhile config past asking (Some q) = (task : Task) → next_task config past ≡ Some task → MayBeRefused config (pager_after config past) task
MayRefuseMeanwhile config past doing leaving = Unit {0}

-- each charged page is touched
abbrev pub AreTouched : Pager → Type 0
AreTouched a = (g : Page) → 0 < count_page a.charged g → 0 < count_page a.touched g

-- the next request is a reference that was read from its section block just now: its process is resident, the flat
-- machine doesn't refuse it, its entry is valid, and but for its page each charged page is touched
pub record IsRead (config : Config) (past : List Entry) : Type 0 where
  pub task : Task
  pub next : next_task config past ≡ Some task
  pub reference : Ref
  pub asked : task.request ≡ request.Reference reference
  pub resident : (pager_after config past).status (task.proc).0 ≡ status.Resident
  pub allowed : flat_refusal config (flat_after config past) (task.proc).0 reference ≡ None
  pub entry : Valid
  pub valid : entry_of (pager_after config past).valid (task.proc).0 (page_number (reference.addr).0) ≡ Some entry
  pub page : Page
  pub mapped : page_by config (pager_after config past).map (task.proc).0 (page_number (reference.addr).0) ≡ Some page
  pub others : (g : Page) → (g ≡ page → ⊥) → 0 < count_page (pager_after config past).charged g → 0 < count_page (pager_after config past).touched g

-- outside the rundown each charged page is touched, but for one that was read for the next request
abbrev pub HasTouched : Config → List Entry → Doing → Option ℕ → Type 0
HasTouched config past asking None = AreTouched (pager_after config past) ⊎ IsRead config past
HasTouched config past asking (Some q) = AreTouched (pager_after config past)
HasTouched config past (saving begun p) leaving = AreTouched (pager_after config past)
HasTouched config past (freeing begun p) leaving = AreTouched (pager_after config past)
HasTouched config past (cleaning at) leaving = Unit {0}

pub record IsControlled (config : Config) (past : List Entry) (c : Control) : Type 0 where
  pub leaving : (q : ℕ) → c.leaving ≡ Some q → IsLeft config (pager_after config past) q
  pub answered_process : IsAnsweredProcess config c.doing
  pub waiting : MayRefuseMeanwhile config past c.doing c.leaving
  pub touched : HasTouched config past c.doing c.leaving
