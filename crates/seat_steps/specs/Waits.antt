-- What a request waits for in a run by threads, that its own seat works for: what its next step answers. This project's
-- own.
use Rattle.std.specs.Prelude.{◌≡◌, ◌⊎◌, ℕ, List}
use Rattle.vm_types.specs.declared.config.Config.{Config}
use Rattle.vm_types.specs.declared.names.ProcStatus.TheVariants as status
use Rattle.vm_types.specs.declared.reference.Ref.{Ref}
use Rattle.vm_types.specs.declared.service.Request.{Request}
use Rattle.vm_types.specs.declared.service.Request.TheVariants.{Reference, Service as Asked}
use Rattle.vm_types.specs.declared.service.Service.{Service}
use Rattle.vm_journal.specs.declared.entry.Entry.{Entry}
use Rattle.pager_model.specs.Run.{pager_after}
use Rattle.pager_policy.specs.Advance.{NextIs, advance_gives, again_modified_full, again_no_frame, again_not_resident, next_again}
use Rattle.pager_policy.specs.Serve.{ServeIs, serve_again, serve_gives, serve_modified_full, serve_not_resident}
use Rattle.pager_policy.specs.Swap.{come_gives, swap_again, swap_no_frame}

abbrev pub reference_answer : Config → List Entry → ℕ → Ref → NextIs
reference_answer config past p r = (advance_gives config past (pager_after config past) p r).answer

abbrev pub service_answer : Config → List Entry → ℕ → Service → ServeIs
service_answer config past p s = (serve_gives config past (pager_after config past) p s).answer

-- process p has to be resident for it
abbrev pub WaitsForProcess : Config → List Entry → ℕ → Request → Type 0
WaitsForProcess config past p (Reference r) = reference_answer config past p r ≡ next_again again_not_resident
WaitsForProcess config past p (Asked s) = service_answer config past p s ≡ serve_again serve_not_resident

-- the modified list is too long for it
abbrev pub WaitsForRoom : Config → List Entry → ℕ → Request → Type 0
WaitsForRoom config past p (Reference r) = reference_answer config past p r ≡ next_again again_modified_full
WaitsForRoom config past p (Asked s) = service_answer config past p s ≡ serve_again serve_modified_full

-- its page has to have a frame
abbrev pub WaitsForPage : Config → List Entry → ℕ → Request → Type 0
WaitsForPage config past p (Reference r) = reference_answer config past p r ≡ next_again again_no_frame
WaitsForPage config past p (Asked s) = ⊥

-- process p has to be resident for it, and is coming
pub record ComesFor (config : Config) (past : List Entry) (p : ℕ) (x : Request) : Type 0 where
  pub waits : WaitsForProcess config past p x
  pub coming : (pager_after config past).status p ≡ status.Coming

-- and a page of its swap blocks has to have a frame
pub record WaitsToCome (config : Config) (past : List Entry) (p : ℕ) (x : Request) : Type 0 where
  pub comes : ComesFor config past p x
  pub no_frame : (come_gives config past (pager_after config past) p).answer ≡ swap_again swap_no_frame

-- a frame has to be free
abbrev pub WaitsForFrame : Config → List Entry → ℕ → Request → Type 0
WaitsForFrame config past p x = WaitsForPage config past p x ⊎ WaitsToCome config past p x
