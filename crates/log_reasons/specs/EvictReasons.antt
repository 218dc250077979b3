-- What a condition that doesn't hold states, of the row EVICT. This project's own.
use Rattle.std.specs.Prelude.{◌≡◌, ◌⊎◌, ◌+◌, ◌<◌, ◌≤◌, ℕ, Bool, true, false, List, Option, Some, None, length, slice_get}
use Rattle.vm_types.specs.Ring.{Held, Ring, choose, filled, is_fixed}
use Rattle.vm_types.specs.declared.config.Config.{Config}
use Rattle.vm_types.specs.declared.names.BlockId.{BlockId}
use Rattle.vm_types.specs.declared.names.BlockId.TheVariants as block
use Rattle.vm_types.specs.declared.names.FrameState.{FrameState}
use Rattle.vm_types.specs.declared.names.FrameState.TheVariants as state
use Rattle.vm_types.specs.declared.names.Page.{Page}
use Rattle.vm_types.specs.declared.names.ProcStatus.TheVariants as status
use Rattle.vm_types.specs.declared.ring_choice.Choice.{Choice}
use Rattle.vm_types.specs.declared.ring_choice.Choice.TheVariants.{Victim}
use Rattle.vm_journal.specs.declared.entry.Entry.{Entry}
use Rattle.vm_journal.specs.declared.entry.EvictWhy.{EvictWhy}
use Rattle.vm_journal.specs.declared.entry.EvictWhy.TheVariants as evict
use Rattle.pager_model.specs.Evict.{evicted_to}
use Rattle.pager_model.specs.Flights.{open_flights}
use Rattle.pager_model.specs.Lookups.{entry_of, shares, slot_with}
use Rattle.pager_model.specs.Maps.{is_private, page_number, proc}
use Rattle.pager_model.specs.Order.{IsAnswered}
use Rattle.pager_model.specs.Pager.{Pager, Valid}
use Rattle.pager_model.specs.Transfers.{reads_on, writes_on}
use Rattle.log_reasons.specs.declared.reason.Reason.{Reason}
use Rattle.log_reasons.specs.declared.reason.Reason.TheVariants as reason
use Rattle.log_reasons.specs.OwnReasons.{OwnFails}
use Rattle.log_reasons.specs.RowReasons.{SeatFails, StatusFails}

-- the page is valid in the frame, which goes there
abbrev pub TakenFails : List Entry → Pager → ℕ → ℕ → ℕ → FrameState → Reason → Type 0
TakenFails past a p v f to reason.PageNotValid = entry_of a.valid p v ≡ None
TakenFails past a p v f to (reason.ValidInOtherFrame frame) = (entry : Valid) × (entry_of a.valid p v ≡ Some entry) × (frame.0 ≡ entry.frame) × (entry.frame ≡ f → ⊥)
TakenFails past a p v f to (reason.GoesElsewhere s) = (s ≡ evicted_to (shares a.valid f) (reads_on f (open_flights past) + writes_on f (open_flights past)) (a.modify f)) × (to ≡ s → ⊥)
TakenFails past a p v f to other = ⊥

-- the modified list has room for it
abbrev pub WaitsFails : Config → Pager → FrameState → Reason → Type 0
WaitsFails config a to (reason.ModifiedListAtWaitLimit n) = (to ≡ state.Modified) × (n ≡ config.params.waitlimit) × (n ≤ length a.modified)
WaitsFails config a to other = ⊥

-- the count is at the limit or above
abbrev pub FullFails : Pager → ℕ → Reason → Type 0
FullFails a p (reason.CountBelowLimit count limit) = (count ≡ filled (a.ring p).slots) × (limit ≡ a.limit p) × (count < limit)
FullFails a p other = ⊥

abbrev pub victim_slot : Choice → Option ℕ
victim_slot (Victim slot) = Some slot
victim_slot other = None

-- the page is in the victim's slot
abbrev pub VictimFails : Ring → ℕ → ℕ → Reason → Type 0
VictimFails ring limit v (reason.NotTheVictim slot) =
    (slot ≡ victim_slot (choose ring limit)) × ((n : ℕ) (held : Held) → choose ring limit ≡ Victim n → slice_get ring.slots n ≡ Some (Some held) → held.vpn ≡ v → ⊥)
VictimFails ring limit v other = ⊥

abbrev pub ReplaceFails : Config → List Entry → Pager → ℕ → ℕ → ℕ → FrameState → Reason → Type 0
ReplaceFails config past a p address f to r =
    OwnFails config a p r ⊎ (FullFails a p r ⊎ (VictimFails (a.ring p) (a.limit p) (page_number address) r ⊎ (TakenFails past a p (page_number address) f to r ⊎ WaitsFails config a to r)))

-- one that is purged is neither locked nor pinned
abbrev pub LooseFails : Ring → ℕ → Bool → Reason → Type 0
LooseFails ring v purged reason.PageIsFixed = (purged ≡ true) × ((held : Held) × (slice_get ring.slots (slot_with ring v) ≡ Some (Some held)) × (is_fixed held ≡ true))
LooseFails ring v purged other = ⊥

abbrev pub DroppedFails : Config → List Entry → Pager → ℕ → ℕ → ℕ → Bool → FrameState → Reason → Type 0
DroppedFails config past a p address f purged to r =
    OwnFails config a p r ⊎ (TakenFails past a p (page_number address) f to r ⊎ (LooseFails (a.ring p) (page_number address) purged r ⊎ WaitsFails config a to r))

abbrev pub UnpinnedFails : Ring → ℕ → Reason → Type 0
UnpinnedFails ring v reason.PageIsPinned = (held : Held) × (slice_get ring.slots (slot_with ring v) ≡ Some (Some held)) × (held.pinned ≡ true)
UnpinnedFails ring v other = ⊥

-- a private page lies in its slot's swap block, unmodified and without a flight
abbrev pub WrittenFails : List Entry → Pager → ℕ → BlockId → Reason → Type 0
WrittenFails past a f b reason.NotYetWritten =
    ((g : Page) → a.page f ≡ Some g → is_private g ≡ true → (a.lies g ≡ Some b) × (a.modify f ≡ false) × (reads_on f (open_flights past) + writes_on f (open_flights past) ≡ 0)) → ⊥
WrittenFails past a f b other = ⊥

abbrev pub LeavingFails : Config → List Entry → Pager → ℕ → ℕ → ℕ → FrameState → Reason → Type 0
LeavingFails config past a p address f to r =
    StatusFails a p status.Leaving r ⊎ (UnpinnedFails (a.ring p) (page_number address) r ⊎ (TakenFails past a p (page_number address) f to r
    ⊎ (WrittenFails past a f (block.Swap (proc p) (slot_with (a.ring p) (page_number address))) r ⊎ WaitsFails config a to r)))

-- by the writer, once all requests are answered, of a shared page
abbrev pub WriterFails : Config → List Entry → Pager → ℕ → ℕ → Reason → Type 0
WriterFails config past a seat f reason.NotTheWriter = seat ≡ length config.procs → ⊥
WriterFails config past a seat f reason.RequestIsLeft = IsAnswered config past → ⊥
WriterFails config past a seat f reason.PageIsPrivate = (g : Page) × (a.page f ≡ Some g) × (is_private g ≡ true)
WriterFails config past a seat f other = ⊥

abbrev pub RundownFails : Config → List Entry → Pager → ℕ → ℕ → ℕ → ℕ → FrameState → Reason → Type 0
RundownFails config past a seat p address f to r = WriterFails config past a seat f r ⊎ (TakenFails past a p (page_number address) f to r ⊎ WaitsFails config a to r)

-- EVICT, by its reason
abbrev pub EvictFails : EvictWhy → Config → List Entry → Pager → ℕ → ℕ → ℕ → ℕ → FrameState → Reason → Type 0
EvictFails evict.Replace config past a seat p address f to r = SeatFails seat p r ⊎ ReplaceFails config past a p address f to r
EvictFails evict.Purge config past a seat p address f to r = SeatFails seat p r ⊎ DroppedFails config past a p address f true to r
EvictFails evict.Delete config past a seat p address f to r = SeatFails seat p r ⊎ DroppedFails config past a p address f false to r
EvictFails evict.Leave config past a seat p address f to r = LeavingFails config past a p address f to r
EvictFails evict.Rundown config past a seat p address f to r = RundownFails config past a seat p address f to r
