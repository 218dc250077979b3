-- What a condition that doesn't hold states, of the row IN. This project's own.
use Rattle.std.specs.Prelude.{◌≡◌, ◌⊎◌, ℕ, true, List, Some, None, count_by}
use Rattle.vm_types.specs.Configuration.{IsBlock}
use Rattle.vm_types.specs.declared.config.Config.{Config}
use Rattle.vm_types.specs.declared.names.BlockId.{BlockId}
use Rattle.vm_types.specs.declared.names.BlockId.TheVariants as block
use Rattle.vm_types.specs.declared.names.Page.{Page}
use Rattle.vm_types.specs.declared.names.Proc.{Proc}
use Rattle.vm_types.specs.declared.names.ProcStatus.TheVariants as status
use Rattle.vm_journal.specs.declared.entry.Entry.{Entry}
use Rattle.vm_journal.specs.declared.entry.Role.{Role}
use Rattle.vm_journal.specs.declared.entry.Role.TheVariants as role
use Rattle.pager_model.specs.Carrier.{carrying}
use Rattle.pager_model.specs.Flights.{Flight, is_busy, open_flights}
use Rattle.pager_model.specs.In.{IsFirstIn, is_fault_or_near, is_kin}
use Rattle.pager_model.specs.Lookups.{page_by}
use Rattle.pager_model.specs.Maps.{page_number}
use Rattle.pager_model.specs.Pager.{Pager}
use Rattle.pager_model.specs.Transfers.{is_on_block}
use Rattle.log_reasons.specs.declared.reason.Reason.{Reason}
use Rattle.log_reasons.specs.declared.reason.Reason.TheVariants as reason
use Rattle.log_reasons.specs.OwnReasons.{EmptyHeadFails, OwnFails, RoomFails}
use Rattle.log_reasons.specs.RowReasons.{SeatFails, StatusFails}

-- the block is one of the configuration, and in no flight
abbrev pub HomeFails : Config → List Entry → BlockId → Reason → Type 0
HomeFails config past b reason.NoSuchBlock = IsBlock config b → ⊥
HomeFails config past b reason.BlockInFlight = count_by (is_on_block b) (open_flights past) ≡ 0 → ⊥
HomeFails config past b other = ⊥

-- the page is out, and lies in the block
abbrev pub LyingPageFails : Pager → BlockId → Page → Reason → Type 0
LyingPageFails a b page reason.PageInMemory = ((g : ℕ) → a.page g ≡ Some page → ⊥) → ⊥
LyingPageFails a b page (reason.LiesElsewhere o) = (o ≡ a.lies page) × (o ≡ Some b → ⊥)
LyingPageFails a b page other = ⊥

abbrev pub LyingFails : Config → List Entry → Pager → ℕ → BlockId → Page → Reason → Type 0
LyingFails config past a f b page r = HomeFails config past b r ⊎ (EmptyHeadFails a f r ⊎ LyingPageFails a b page r)

-- a resident process with room below its limit has a block that is home read into an empty frame
abbrev pub MayReadFails : Config → List Entry → Pager → ℕ → ℕ → BlockId → Reason → Type 0
MayReadFails config past a p f b r = OwnFails config a p r ⊎ (HomeFails config past b r ⊎ (EmptyHeadFails a f r ⊎ RoomFails a p r))

-- the page is out, and lies in the block or is read for the first time
abbrev pub FromFails : Config → Pager → ℕ → ℕ → BlockId → Page → Reason → Type 0
FromFails config a p v b page reason.PageInMemory = ((g : ℕ) → a.page g ≡ Some page → ⊥) → ⊥
FromFails config a p v b page (reason.LiesElsewhere o) = (o ≡ a.lies page) × ((o ≡ Some b) ⊎ IsFirstIn config a p v b page → ⊥)
FromFails config a p v b page other = ⊥

-- FAULT, of the page that is mapped there
abbrev pub FaultPageFails : Config → List Entry → Pager → ℕ → ℕ → BlockId → ℕ → ℕ → Page → Reason → Type 0
FaultPageFails config past a p f b q address page r = SeatFails p q r ⊎ (MayReadFails config past a p f b r ⊎ FromFails config a p (page_number address) b page r)

-- the page is mapped
abbrev pub MappedPageFails : Config → Pager → ℕ → ℕ → Reason → Type 0
MappedPageFails config a p v reason.NotMapped = page_by config a.map p v ≡ None
MappedPageFails config a p v other = ⊥

abbrev pub InFaultFails : Config → List Entry → Pager → ℕ → ℕ → BlockId → ℕ → ℕ → Reason → Type 0
InFaultFails config past a p f b q address r =
    MappedPageFails config a p (page_number address) r ⊎ ((page : Page) × (page_by config a.map p (page_number address) ≡ Some page) × FaultPageFails config past a p f b q address page r)

-- NEAR: the seat's last flight is an open read for a fault or a neighbour, of a page of its kin
abbrev pub NearFails : List Entry → Pager → ℕ → Page → Reason → Type 0
NearFails past a seat page reason.NoReadToFollow = ((last : Flight) × ((carrying seat past).last ≡ Some last) × (is_busy seat (open_flights past) ≡ true) × (is_fault_or_near last.direction ≡ true)) → ⊥
NearFails past a seat page reason.NotKin = (last : Flight) × ((carrying seat past).last ≡ Some last) × ((before : Page) → a.page last.frame ≡ Some before → is_kin before page ≡ true → ⊥)
NearFails past a seat page other = ⊥

abbrev pub InNearFails : Config → List Entry → Pager → ℕ → ℕ → BlockId → Page → Reason → Type 0
InNearFails config past a seat f b page r = NearFails past a seat page r ⊎ LyingFails config past a f b page r

-- COME: the block is one of the process's swap blocks
abbrev pub SwapBlockFails : Proc → BlockId → Reason → Type 0
SwapBlockFails p b reason.NotItsSwapBlock = (n : ℕ) → b ≡ block.Swap p n → ⊥
SwapBlockFails p b other = ⊥

-- of the page that is mapped there
abbrev pub ComePageFails : Config → List Entry → Pager → ℕ → BlockId → Proc → Page → Reason → Type 0
ComePageFails config past a f b p page r = StatusFails a p.0 status.Coming r ⊎ (SwapBlockFails p b r ⊎ LyingFails config past a f b page r)

abbrev pub InComeFails : Config → List Entry → Pager → ℕ → BlockId → Proc → ℕ → Reason → Type 0
InComeFails config past a f b p address r =
    MappedPageFails config a p.0 (page_number address) r ⊎ ((page : Page) × (page_by config a.map p.0 (page_number address) ≡ Some page) × ComePageFails config past a f b p page r)

-- IN, by its role
abbrev pub InFails : Role → Config → List Entry → Pager → ℕ → ℕ → BlockId → Reason → Type 0
InFails (role.Fault q address) config past a p f b r = InFaultFails config past a p f b q.0 address.0 r
InFails (role.Near page) config past a p f b r = InNearFails config past a p f b page r
InFails (role.Come q address) config past a p f b r = InComeFails config past a f b q address.0 r
