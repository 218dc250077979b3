-- The steps of the policy that a seat makes in a run by threads, and what each is made for. A seat works for a request of
-- its process, or, as the modified page writer or the swapper, for none. Source: Kenah and Bate, "VAX/VMS Internals and
-- Data Structures", the modified page writer (LOLIMIT) and the swapper (FREELIM); that a process's seat does their work
-- where its request waits for it, and the order of the swapper's work, are this project's own.
use Rattle.std.specs.Prelude.{◌≡◌, ◌⊎◌, ℕ, false, ◌<◌, List, [], ◌∷◌, Option, Some, None, length, map}
use Rattle.vm_types.specs.declared.config.Config.{Config}
use Rattle.vm_types.specs.declared.names.ProcStatus.TheVariants as status
use Rattle.vm_types.specs.declared.reference.Ref.{Ref}
use Rattle.vm_types.specs.declared.reply.Reply.{Reply}
use Rattle.vm_types.specs.declared.service.Request.{Request}
use Rattle.vm_types.specs.declared.service.Request.TheVariants as asked
use Rattle.vm_types.specs.declared.service.Service.{Service}
use Rattle.vm_journal.specs.declared.entry.Entry.{Entry}
use Rattle.vm_journal.specs.declared.entry.What.{What}
use Rattle.vm_journal.specs.declared.entry.What.TheVariants as what
use Rattle.pager_model.specs.Flights.{is_busy, open_flights}
use Rattle.pager_model.specs.Maps.{proc}
use Rattle.pager_model.specs.Pager.{Pager}
use Rattle.pager_model.specs.Run.{pager_after}
use Rattle.pager_model.specs.Transfers.{has_come}
use Rattle.pager_policy.specs.Advance.{advance_gives}
use Rattle.pager_policy.specs.Given.{made_by, with_reply}
use Rattle.pager_policy.specs.Policy.{coming_process, swapper_of}
use Rattle.pager_policy.specs.Rundown.{writer_of}
use Rattle.pager_policy.specs.Serve.{serve_gives}
use Rattle.pager_policy.specs.Swap.{come_gives, leave_gives, swap_again, swap_modified_full, victim_gives}
use Rattle.pager_policy.specs.WriteCluster.{Reason, begin_gives, reason_high, reason_need}
use Rattle.seat_steps.specs.Leaving.{lowest_leaving}
use Rattle.seat_steps.specs.Waits.{ComesFor, WaitsForFrame, WaitsForProcess, WaitsForRoom}

-- nothing; the next step of a reference, with its reply, or of a service; a write cluster; a process goes on to leave; the
-- seat's own process comes on, or begins to come; the process that is chosen begins to leave; a coming one begins to leave
pub data Step : Type 0 where
  makes_nothing : Step
  refers : Ref → Reply → Step
  serves : Service → Step
  writes : Reason → Step
  leaves : ℕ → Step
  comes : Step
  begins_to_come : Step
  sends_out : ℕ → Step
  bars : ℕ → Step

-- ---- what it makes, by the policy
abbrev pub step_gives : Config → List Entry → Pager → ℕ → Step → List What
step_gives config past a seat makes_nothing = []
step_gives config past a seat (refers r shown) = map (with_reply shown) (advance_gives config past a seat r).made
step_gives config past a seat (serves s) = (serve_gives config past a seat s).made
step_gives config past a seat (writes reason) = (begin_gives config a reason).made
step_gives config past a seat (leaves q) = (leave_gives config past a q).made
step_gives config past a seat comes = (come_gives config past a seat).made
step_gives config past a seat begins_to_come = what.Turn (proc seat) status.Coming ∷ []
step_gives config past a seat (sends_out q) = what.Turn (proc q) status.Leaving ∷ []
step_gives config past a seat (bars q) = what.Turn (proc q) status.Leaving ∷ []

-- ---- what it is made for
-- the seat works for a request for which such holds
pub record WorksFor (request : Option Request) (Is : Request → Type 0) : Type 0 where
  pub x : Request
  pub asks : request ≡ Some x
  pub is : Is x

-- the seat looks for frames: its process waits for one, no page is on the modified list, and the process itself isn't
-- left; or it is the swapper's
abbrev pub LooksForFrames : Config → List Entry → ℕ → Option Request → Option ℕ → Type 0
LooksForFrames config past seat (Some x) (Some p) = (p ≡ seat) × (WaitsForFrame config past seat x × ((pager_after config past).modified ≡ []))
LooksForFrames config past seat None None = seat ≡ swapper_of config
LooksForFrames config past seat request but = ⊥

-- it does so, and process q is the lowest that is leaving
pub record IsLowest (config : Config) (past : List Entry) (seat : ℕ) (request : Option Request) (q : ℕ) : Type 0 where
  pub but : Option ℕ
  pub looks : LooksForFrames config past seat request but
  pub lowest : lowest_leaving config (pager_after config past) but ≡ Some q

-- or q is the seat's own process, has to be resident, and has to leave first
pub record IsOwnLeaving (config : Config) (past : List Entry) (seat : ℕ) (request : Option Request) (q : ℕ) : Type 0 where
  pub own : q ≡ seat
  pub works : WorksFor request (WaitsForProcess config past seat)

-- q goes on to leave
pub record IsToLeave (config : Config) (past : List Entry) (seat : ℕ) (request : Option Request) (q : ℕ) : Type 0 where
  pub leaving : (pager_after config past).status q ≡ status.Leaving
  pub why : IsLowest config past seat request q ⊎ IsOwnLeaving config past seat request q

-- the seat looks for frames, none is leaving, and q is chosen: by the swapper if fewer frames are free than FREELIM
pub record IsChosen (config : Config) (past : List Entry) (seat : ℕ) (request : Option Request) (q : ℕ) : Type 0 where
  pub but : Option ℕ
  pub looks : LooksForFrames config past seat request but
  pub none_leaving : lowest_leaving config (pager_after config past) but ≡ None
  pub few : request ≡ None → length (pager_after config past).free < config.params.freelim
  pub chosen : victim_gives config past (pager_after config past) but ≡ Some q

-- the seat's own process is gone, has to be resident, and none is coming
pub record IsToCome (config : Config) (past : List Entry) (seat : ℕ) (x : Request) : Type 0 where
  pub waits : WaitsForProcess config past seat x
  pub gone : (pager_after config past).status seat ≡ status.Gone
  pub none_coming : coming_process config (pager_after config past) ≡ None

-- or q is coming, and has no open transfer
pub record IsBarred (config : Config) (past : List Entry) (seat q : ℕ) (x : Request) : Type 0 where
  pub waits : WaitsForProcess config past seat x
  pub gone : (pager_after config past).status seat ≡ status.Gone
  pub first : coming_process config (pager_after config past) ≡ Some q
  pub coming : (pager_after config past).status q ≡ status.Coming
  pub idle : is_busy q (open_flights past) ≡ false
  pub no_come : has_come q (open_flights past) ≡ false

-- the eviction with which q would go on to leave waits for the modified list
pub record IsHeldLeaving (config : Config) (past : List Entry) (seat : ℕ) (request : Option Request) (q : ℕ) : Type 0 where
  pub leaves : IsToLeave config past seat request q
  pub full : (leave_gives config past (pager_after config past) q).answer ≡ swap_again swap_modified_full

-- a cluster is written by the writer while the list is longer than LOLIMIT, and by a seat whose request waits for room on
-- the list, or for a frame, or that has such a process to leave
abbrev pub IsToWrite : Config → List Entry → ℕ → Option Request → Reason → Type 0
IsToWrite config past seat request reason_high = (request ≡ None) × (seat ≡ writer_of config)
IsToWrite config past seat request reason_need =
    WorksFor request (WaitsForRoom config past seat) ⊎ (WorksFor request (WaitsForFrame config past seat) ⊎ ((q : ℕ) × IsHeldLeaving config past seat request q))

abbrev pub IsStepFor : Config → List Entry → ℕ → Option Request → Step → Type 0
IsStepFor config past seat request makes_nothing = Unit {0}
IsStepFor config past seat request (refers r shown) = request ≡ Some (asked.Reference r)
IsStepFor config past seat request (serves s) = request ≡ Some (asked.Service s)
IsStepFor config past seat request (writes reason) = IsToWrite config past seat request reason
IsStepFor config past seat request (leaves q) = IsToLeave config past seat request q
IsStepFor config past seat request comes = WorksFor request (ComesFor config past seat)
IsStepFor config past seat request begins_to_come = WorksFor request (IsToCome config past seat)
IsStepFor config past seat request (sends_out q) = IsChosen config past seat request q
IsStepFor config past seat request (bars q) = WorksFor request (IsBarred config past seat q)

-- one such step leads from a past to a longer one
pub record IsStep (config : Config) (past more : List Entry) (seat : ℕ) (request : Option Request) : Type 0 where
  pub step : Step
  pub made_for : IsStepFor config past seat request step
  pub is : more ≡ made_by seat (step_gives config past (pager_after config past) seat step) past
