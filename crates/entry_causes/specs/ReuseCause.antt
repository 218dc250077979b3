-- Why a frame gives up its page: it is needed at once for another one, or its read has failed. Source: Kenah and Bate,
-- "VAX/VMS Internals and Data Structures", the PFN database and paging dynamics (page reads and clusters).
use Rattle.std.specs.Prelude.{◌≡◌, ◌⊎◌, ℕ, true, ◌<◌, List, Some}
use Rattle.vm_types.specs.BlockOrder.{is_next_block}
use Rattle.vm_types.specs.Configuration.{IsBlock}
use Rattle.vm_types.specs.declared.names.BlockId.{BlockId}
use Rattle.vm_types.specs.declared.names.Page.{Page}
use Rattle.vm_types.specs.declared.config.Config.{Config}
use Rattle.vm_journal.specs.declared.entry.Entry.{Entry}
use Rattle.pager_model.specs.Carrier.{carrying}
use Rattle.pager_model.specs.Flights.{Flight, awaits_reuse, is_busy, open_flights}
use Rattle.pager_model.specs.In.{is_fault_or_near, is_kin}
use Rattle.pager_model.specs.Pager.{Pager}
use Rattle.entry_causes.specs.FrameWanted.{WantsFrameForFault, WantsFrameToCome}

-- a page follows the one that is read: its neighbour, which lies in the next block, and is out
pub record IsFollowed (config : Config) (a : Pager) (last : Flight) : Type 0 where
  pub before : Page
  pub holds : a.page last.frame ≡ Some before
  pub page : Page
  pub kin : is_kin before page ≡ true
  pub block : BlockId
  pub exists : IsBlock config block
  pub next_block : is_next_block last.block block ≡ true
  pub lies : a.lies page ≡ Some block
  pub out : (f : ℕ) → a.page f ≡ Some page → ⊥

-- the seat reads a cluster for a fault, of which no read has landed, which has fewer reads than PFC, and whose last read
-- a page follows
pub record ReadsOn (config : Config) (past : List Entry) (a : Pager) (seat : ℕ) : Type 0 where
  pub busy : is_busy seat (open_flights past) ≡ true
  pub last : Flight
  pub lasts : (carrying seat past).last ≡ Some last
  pub role : is_fault_or_near last.direction ≡ true
  pub none_landed : (carrying seat past).landed ≡ 0
  pub room : (carrying seat past).begun < config.params.pfc
  pub followed : IsFollowed config a last

-- the frame's read has failed; or the seat's own process wants a frame for a fault; or the seat reads on; or a
-- process wants a frame to come
abbrev pub IsReuseCause : Config → List Entry → Pager → ℕ → Type 0
IsReuseCause config past a seat =
    (awaits_reuse past ≡ true)
    ⊎ (WantsFrameForFault config past a seat
    ⊎ (ReadsOn config past a seat
    ⊎ ((q : ℕ) × WantsFrameToCome config past a q)))
