-- A process that wants a frame: for a page of its own that no frame holds. Source: Kenah and Bate, "VAX/VMS Internals
-- and Data Structures", paging dynamics (a fault for a page that is out), and the swapper: inswap.
use Rattle.std.specs.Prelude.{◌≡◌, ◌⊎◌, ℕ, ◌<◌, List, Some}
use Rattle.vm_types.specs.Ring.{filled}
use Rattle.vm_types.specs.declared.names.BlockId.TheVariants as block
use Rattle.vm_types.specs.declared.names.Page.{Page}
use Rattle.vm_types.specs.declared.names.ProcStatus.TheVariants as status
use Rattle.vm_types.specs.declared.config.Config.{Config}
use Rattle.vm_journal.specs.declared.entry.Entry.{Entry}
use Rattle.pager_model.specs.Lookups.{page_by}
use Rattle.pager_model.specs.Maps.{proc}
use Rattle.pager_model.specs.Own.{IsResident}
use Rattle.pager_model.specs.Pager.{Pager}
use Rattle.entry_causes.specs.NextRequest.{HasRequest}
use Rattle.entry_causes.specs.Wanted.{IsWanted}

-- it is resident, wants a page that is out, and has room for it below its limit
pub record WantsFrameForFault (config : Config) (past : List Entry) (a : Pager) (p : ℕ) : Type 0 where
  pub own : IsResident config a p
  pub v : ℕ
  pub wanted : IsWanted config past a p v
  pub page : Page
  pub mapped : page_by config a.map p v ≡ Some page
  pub out : (f : ℕ) → a.page f ≡ Some page → ⊥
  pub below_limit : filled (a.ring p).slots < a.limit p

-- it is coming for a request that isn't answered, and a page that lies in one of its swap blocks is out
pub record WantsFrameToCome (config : Config) (past : List Entry) (a : Pager) (p : ℕ) : Type 0 where
  pub coming : a.status p ≡ status.Coming
  pub asks : HasRequest config past p
  pub page : Page
  pub slot : ℕ
  pub lies : a.lies page ≡ Some (block.Swap (proc p) slot)
  pub out : (f : ℕ) → a.page f ≡ Some page → ⊥

abbrev pub WantsFrame : Config → List Entry → Pager → ℕ → Type 0
WantsFrame config past a p = WantsFrameForFault config past a p ⊎ WantsFrameToCome config past a p
