-- What a condition that doesn't hold states, of the row OUT. This project's own.
use Rattle.std.specs.Prelude.{◌≡◌, ◌⊎◌, ◌+◌, ℕ, false, true, List, Option, Some, None, slice_get, if◌then◌else◌}
use Rattle.vm_types.specs.Ring.{Held}
use Rattle.vm_types.specs.declared.config.Config.{Config}
use Rattle.vm_types.specs.declared.names.BlockId.{BlockId}
use Rattle.vm_types.specs.declared.names.BlockId.TheVariants as block
use Rattle.vm_types.specs.declared.names.Page.{Page}
use Rattle.vm_types.specs.declared.names.Proc.{Proc}
use Rattle.vm_types.specs.declared.names.ProcStatus.TheVariants as status
use Rattle.vm_journal.specs.declared.entry.Entry.{Entry}
use Rattle.pager_model.specs.Flights.{open_flights}
use Rattle.pager_model.specs.Lookups.{IsHead, block_of, entry_of}
use Rattle.pager_model.specs.Maps.{is_paged, is_private}
use Rattle.pager_model.specs.Out.{IsOutBlock}
use Rattle.pager_model.specs.Pager.{Pager, Valid}
use Rattle.pager_model.specs.Transfers.{reads_on, writes_on}
use Rattle.log_reasons.specs.declared.reason.Reason.{Reason}
use Rattle.log_reasons.specs.declared.reason.Reason.TheVariants as reason
use Rattle.log_reasons.specs.ReadReasons.{HomeFails}
use Rattle.log_reasons.specs.RowReasons.{StatusFails}

abbrev pub page_file_block : Option ℕ → Option BlockId
page_file_block None = None
page_file_block (Some n) = Some (block.PageFile n)

-- the block to which a listed page is written; none where that is any free one of the page file
abbrev pub out_block : Config → Pager → Page → Option BlockId
out_block config a page = if is_paged config page then page_file_block (block_of a.assigned page) else a.lies page

-- of the modified list's head: a block that is its page's
abbrev pub ListedFails : Config → Pager → ℕ → BlockId → Reason → Type 0
ListedFails config a f b reason.FrameIsEmpty = a.page f ≡ None
ListedFails config a f b (reason.NotAtModifiedHead head) = (head ≡ slice_get a.modified 0) × (IsHead a.modified f → ⊥)
ListedFails config a f b (reason.NotItsBlock o) = (page : Page) × (a.page f ≡ Some page) × (o ≡ out_block config a page) × (IsOutBlock config a b page → ⊥)
ListedFails config a f b other = ⊥

abbrev pub OutListedFails : Config → List Entry → Pager → ℕ → BlockId → Reason → Type 0
OutListedFails config past a f b r = HomeFails config past b r ⊎ ListedFails config a f b r

-- the frame holds a private page
abbrev pub PrivateFails : Pager → ℕ → Reason → Type 0
PrivateFails a f reason.FrameIsEmpty = a.page f ≡ None
PrivateFails a f reason.PageIsShared = (page : Page) × (a.page f ≡ Some page) × (is_private page ≡ false)
PrivateFails a f other = ⊥

-- the slot of a process has a page that is valid in the frame and not pinned
abbrev pub SlotFails : Pager → ℕ → ℕ → ℕ → Reason → Type 0
SlotFails a p slot f reason.NotInSlot = (held : Held) (entry : Valid) → slice_get (a.ring p).slots slot ≡ Some (Some held) → entry_of a.valid p held.vpn ≡ Some entry → entry.frame ≡ f → ⊥
SlotFails a p slot f reason.PageIsPinned = (held : Held) × (slice_get (a.ring p).slots slot ≡ Some (Some held)) × (held.pinned ≡ true)
SlotFails a p slot f other = ⊥

-- the frame has no flight, and its page doesn't lie in the block unmodified
abbrev pub ChangedFails : List Entry → Pager → ℕ → BlockId → Reason → Type 0
ChangedFails past a f b reason.FrameInFlight = reads_on f (open_flights past) + writes_on f (open_flights past) ≡ 0 → ⊥
ChangedFails past a f b reason.WrittenAlready = (page : Page) × (a.page f ≡ Some page) × (a.lies page ≡ Some b) × (a.modify f ≡ false)
ChangedFails past a f b other = ⊥

-- of a leaving process's page, to its slot's swap block
abbrev pub LeavingOutFails : List Entry → Pager → ℕ → Proc → ℕ → Reason → Type 0
LeavingOutFails past a f p slot r = PrivateFails a f r ⊎ (StatusFails a p.0 status.Leaving r ⊎ (SlotFails a p.0 slot f r ⊎ ChangedFails past a f (block.Swap p slot) r))

abbrev pub OutSwapFails : Config → List Entry → Pager → ℕ → Proc → ℕ → Reason → Type 0
OutSwapFails config past a f p slot r = HomeFails config past (block.Swap p slot) r ⊎ LeavingOutFails past a f p slot r

-- OUT, by its block
abbrev pub OutFails : BlockId → Config → List Entry → Pager → ℕ → Reason → Type 0
OutFails (block.Swap p slot) config past a f r = OutSwapFails config past a f p slot r
OutFails (block.Section s i) config past a f r = OutListedFails config past a f (block.Section s i) r
OutFails (block.PageFile n) config past a f r = OutListedFails config past a f (block.PageFile n) r
