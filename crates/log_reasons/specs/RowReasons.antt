-- What a condition that doesn't hold states, of the rows of pages: ZERO, REUSE, BACK and COLLIDE. This project's own.
use Rattle.std.specs.Prelude.{◌≡◌, ◌⊎◌, ◌≤◌, ℕ, false, List, Some, None, find, length, slice_get}
use Rattle.vm_types.specs.declared.config.Config.{Config}
use Rattle.vm_types.specs.declared.names.BlockId.TheVariants as block
use Rattle.vm_types.specs.declared.names.FrameState.{FrameState}
use Rattle.vm_types.specs.declared.names.FrameState.TheVariants as state
use Rattle.vm_types.specs.declared.names.Page.{Page}
use Rattle.vm_types.specs.declared.names.ProcStatus.{ProcStatus}
use Rattle.vm_journal.specs.declared.entry.Entry.{Entry}
use Rattle.pager_model.specs.Back.{may_come_back}
use Rattle.pager_model.specs.Flights.{Flight, is_reading, open_flights}
use Rattle.pager_model.specs.Lookups.{IsHead, count_page, entries_at, page_by}
use Rattle.pager_model.specs.Maps.{page_number, proc}
use Rattle.pager_model.specs.Pager.{Pager}
use Rattle.pager_model.specs.Transfers.{starts}
use Rattle.pager_model.specs.Zero.{IsDemandZero, zeroed_page}
use Rattle.log_reasons.specs.declared.reason.Reason.{Reason}
use Rattle.log_reasons.specs.declared.reason.Reason.TheVariants as reason
use Rattle.log_reasons.specs.OwnReasons.{EmptyHeadFails, OwnFails, RoomFails}

-- a page of zeros that isn't charged yet, and a block of the page file is left for it
abbrev pub ZerosFail : Config → Pager → ℕ → ℕ → Reason → Type 0
ZerosFail config a p v reason.NotZeros = IsDemandZero config (a.map p v) → ⊥
ZerosFail config a p v reason.PageIsCharged = count_page a.charged (zeroed_page config p v (a.map p v)) ≡ 0 → ⊥
ZerosFail config a p v (reason.NoBlockIsLeft n) = (n ≡ config.pagefile) × (n ≤ length a.charged)
ZerosFail config a p v other = ⊥

-- ZERO
abbrev pub ZeroFails : Config → Pager → ℕ → ℕ → ℕ → Reason → Type 0
ZeroFails config a p address f r = OwnFails config a p r ⊎ (ZerosFail config a p (page_number address) r ⊎ (RoomFails a p r ⊎ EmptyHeadFails a f r))

-- REUSE: the frame holds the page, and heads the free list, unless its read failed
abbrev pub ReuseFails : Pager → ℕ → Page → Reason → Type 0
ReuseFails a f page (reason.HoldsOtherPage other) = (other ≡ a.page f) × (other ≡ Some page → ⊥)
ReuseFails a f page (reason.NotAtFreeHead head) = (head ≡ slice_get a.free 0) × (IsHead a.free f → ⊥)
ReuseFails a f page other = ⊥

-- the page is mapped, the frame holds it, it isn't valid, and the frame is in the state
abbrev pub StayFails : Config → Pager → ℕ → ℕ → ℕ → FrameState → Reason → Type 0
StayFails config a p v f from reason.NotMapped = page_by config a.map p v ≡ None
StayFails config a p v f from (reason.HoldsOtherPage other) = (other ≡ a.page f) × (other ≡ page_by config a.map p v → ⊥)
StayFails config a p v f from reason.PageIsValid = entries_at a.valid p v ≡ 0 → ⊥
StayFails config a p v f from (reason.InOtherState s) = (s ≡ a.state f) × (s ≡ from → ⊥)
StayFails config a p v f from other = ⊥

abbrev pub MayBackFails : FrameState → Reason → Type 0
MayBackFails from reason.MayNotComeBack = may_come_back from ≡ false
MayBackFails from other = ⊥

abbrev pub ResidentBackFails : Config → Pager → ℕ → ℕ → ℕ → FrameState → Reason → Type 0
ResidentBackFails config a p address f from r = OwnFails config a p r ⊎ (StayFails config a p (page_number address) f from r ⊎ (MayBackFails from r ⊎ RoomFails a p r))

-- the process is in this status
abbrev pub StatusFails : Pager → ℕ → ProcStatus → Reason → Type 0
StatusFails a p wanted (reason.InOtherStatus s) = (s ≡ a.status p) × (s ≡ wanted → ⊥)
StatusFails a p wanted other = ⊥

-- from the free list, and it lies in a swap block of the process
abbrev pub SwappedFails : Config → Pager → ℕ → ℕ → FrameState → Reason → Type 0
SwappedFails config a p v from reason.NotFromFree = from ≡ state.Free → ⊥
SwappedFails config a p v from (reason.LiesElsewhere b) = (page : Page) × (page_by config a.map p v ≡ Some page) × (b ≡ a.lies page) × ((n : ℕ) → b ≡ Some (block.Swap (proc p) n) → ⊥)
SwappedFails config a p v from other = ⊥

abbrev pub ComingBackFails : Config → Pager → ℕ → ℕ → ℕ → FrameState → Reason → Type 0
ComingBackFails config a p address f from r = StayFails config a p (page_number address) f from r ⊎ SwappedFails config a p (page_number address) from r

-- the process is the seat's
abbrev pub SeatFails : ℕ → ℕ → Reason → Type 0
SeatFails seat p reason.NotOwnProcess = p ≡ seat → ⊥
SeatFails seat p other = ⊥

-- BACK
abbrev pub BackFails : Config → Pager → ℕ → ℕ → ℕ → ℕ → FrameState → Reason → Type 0
BackFails config a seat p address f from r = SeatFails seat p r ⊎ (ResidentBackFails config a p address f from r ⊎ ComingBackFails config a p address f from r)

-- the open transfer k is another seat's read into the frame
abbrev pub OtherReadFails : List Entry → ℕ → ℕ → ℕ → Reason → Type 0
OtherReadFails past p f k reason.NoOpenTransfer = find (starts k) (open_flights past) ≡ None
OtherReadFails past p f k (reason.TransferOfOtherFrame frame) = (x : Flight) × (find (starts k) (open_flights past) ≡ Some x) × (frame.0 ≡ x.frame) × (x.frame ≡ f → ⊥)
OtherReadFails past p f k reason.TransferGoesOtherWay = (x : Flight) × (find (starts k) (open_flights past) ≡ Some x) × (is_reading x.direction ≡ false)
OtherReadFails past p f k reason.TransferIsOwn = (x : Flight) × (find (starts k) (open_flights past) ≡ Some x) × (x.seat ≡ p)
OtherReadFails past p f k other = ⊥

-- of the page, which the process hasn't named yet
abbrev pub NamedFails : Config → Pager → ℕ → ℕ → ℕ → ℕ → Reason → Type 0
NamedFails config a p v f k reason.NotMapped = page_by config a.map p v ≡ None
NamedFails config a p v f k (reason.HoldsOtherPage other) = (other ≡ a.page f) × (other ≡ page_by config a.map p v → ⊥)
NamedFails config a p v f k reason.CollisionIsNamed = a.collided p ≡ Some k
NamedFails config a p v f k other = ⊥

-- COLLIDE
abbrev pub CollideFails : Config → List Entry → Pager → ℕ → ℕ → ℕ → ℕ → Reason → Type 0
CollideFails config past a p address f k r = OwnFails config a p r ⊎ (OtherReadFails past p f k r ⊎ NamedFails config a p (page_number address) f k r)
