-- EVICT: a page leaves a working set. Source: Kenah and Bate, "VAX/VMS Internals and Data Structures",
-- working set replacement, purging and outswap; the wait limit on the modified list is its SYSGEN
-- parameter MPW_WAITLIMIT. The ring rule and the five reasons are this project's own.
use Rattle.std.specs.Prelude.{◌≡◌, ℕ, Bool, true, false, ◌+◌, ◌<◌, ◌≤◌, List, Some, None, length, slice_get, slice_set, nat_lt, if◌then◌else◌}
use Rattle.vm_types.specs.Ring.{Ring, Held, choose, filled, is_fixed}
use Rattle.vm_types.specs.declared.names.Page.{Page}
use Rattle.vm_types.specs.declared.names.FrameState.{FrameState}
use Rattle.vm_types.specs.declared.names.FrameState.TheVariants as state
use Rattle.vm_types.specs.declared.names.BlockId.TheVariants as block
use Rattle.vm_types.specs.declared.names.ProcStatus.TheVariants as status
use Rattle.vm_types.specs.declared.config.Config.{Config}
use Rattle.vm_types.specs.declared.ring_choice.Choice.{Choice}
use Rattle.vm_types.specs.declared.ring_choice.Choice.TheVariants.{Victim}
use Rattle.vm_journal.specs.declared.entry.Entry.{Entry}
use Rattle.vm_journal.specs.declared.entry.EvictWhy.{EvictWhy}
use Rattle.vm_journal.specs.declared.entry.EvictWhy.TheVariants as evict
use Rattle.pager_model.specs.Changes.{pushed_if, without_entry}
use Rattle.pager_model.specs.Flights.{open_flights}
use Rattle.pager_model.specs.Lookups.{entry_of, is, shares, slot_with}
use Rattle.pager_model.specs.Maps.{is_private, page_number, proc}
use Rattle.pager_model.specs.Order.{IsAnswered}
use Rattle.pager_model.specs.Own.{IsResident}
use Rattle.pager_model.specs.Pager.{Pager, Valid}
use Rattle.pager_model.specs.Ring.{cleared}
use Rattle.pager_model.specs.Sets.{at_number}
use Rattle.pager_model.specs.Transfers.{reads_on, writes_on}

-- where the frame goes: active while other entries share it, release pending while a flight is open on
-- it, else onto the modified or the free list by its modify mark
abbrev pub evicted_to : ℕ → ℕ → Bool → FrameState
evicted_to shares flights modify =
    if nat_lt 1 shares then state.Active else (if nat_lt 0 flights then state.ReleasePending else (if modify then state.Modified else state.Free))

-- the process's entry at v is valid for f, which goes there
pub record IsTaken (past : List Entry) (a : Pager) (p v f : ℕ) (to : FrameState) : Type 0 where
  pub entry : Valid
  pub valid : entry_of a.valid p v ≡ Some entry
  pub frame : entry.frame ≡ f
  pub goes : to ≡ evicted_to (shares a.valid f) (reads_on f (open_flights past) + writes_on f (open_flights past)) (a.modify f)

-- and it stands in this slot
pub record IsEvicted (past : List Entry) (a : Pager) (p v f slot : ℕ) (to : FrameState) : Type 0 where
  pub taken : IsTaken past a p v f to
  pub held : Held
  pub holds : slice_get (a.ring p).slots slot ≡ Some (Some held)
  pub same : held.vpn ≡ v

-- no eviction adds to a modified list that is at the wait limit
abbrev pub HasRoomFor : Config → Pager → FrameState → Type 0
HasRoomFor config a to = to ≡ state.Modified → length a.modified < config.params.waitlimit

-- REPLACE: the count is at the limit or above, and the slot is the ring's victim
pub record IsReplace (config : Config) (past : List Entry) (a : Pager) (p address f : ℕ) (to : FrameState) : Type 0 where
  pub own : IsResident config a p
  pub full : a.limit p ≤ filled (a.ring p).slots
  pub slot : ℕ
  pub chosen : choose (a.ring p) (a.limit p) ≡ Victim slot
  pub evicted : IsEvicted past a p (page_number address) f slot to
  pub waits : HasRoomFor config a to

-- PURGE and DELETE: a page of the process's own; one that is purged is neither locked nor pinned
pub record IsDropped (config : Config) (past : List Entry) (a : Pager) (p address f : ℕ) (purged : Bool) (to : FrameState) : Type 0 where
  pub own : IsResident config a p
  pub taken : IsTaken past a p (page_number address) f to
  pub loose : (held : Held) → slice_get (a.ring p).slots (slot_with (a.ring p) (page_number address)) ≡ Some (Some held) → purged ≡ true → is_fixed held ≡ false
  pub waits : HasRoomFor config a to

-- LEAVE: of a leaving process, a page that isn't pinned; a private page lies in its slot's swap block,
-- unmodified and without a flight
pub record IsLeavingEvict (config : Config) (past : List Entry) (a : Pager) (p address f : ℕ) (to : FrameState) : Type 0 where
  pub leaving : a.status p ≡ status.Leaving
  pub unpinned : (held : Held) → slice_get (a.ring p).slots (slot_with (a.ring p) (page_number address)) ≡ Some (Some held) → held.pinned ≡ false
  pub taken : IsTaken past a p (page_number address) f to
  pub private : (g : Page) → a.page f ≡ Some g → is_private g ≡ true
      → (a.lies g ≡ Some (block.Swap (proc p) (slot_with (a.ring p) (page_number address)))) × (a.modify f ≡ false) × (reads_on f (open_flights past) + writes_on f (open_flights past) ≡ 0)
  pub waits : HasRoomFor config a to

-- RUNDOWN: a shared page of any process, by the writer, once all requests are answered
pub record IsRundownEvict (config : Config) (past : List Entry) (a : Pager) (seat p address f : ℕ) (to : FrameState) : Type 0 where
  pub writer : seat ≡ length config.procs
  pub answered : IsAnswered config past
  pub taken : IsTaken past a p (page_number address) f to
  pub shared : (g : Page) → a.page f ≡ Some g → is_private g ≡ false
  pub waits : HasRoomFor config a to

abbrev pub IsEvict : EvictWhy → Config → List Entry → Pager → ℕ → ℕ → ℕ → ℕ → FrameState → Type 0
IsEvict evict.Replace config past a seat p address f to = (p ≡ seat) × IsReplace config past a p address f to
IsEvict evict.Purge config past a seat p address f to = (p ≡ seat) × IsDropped config past a p address f true to
IsEvict evict.Delete config past a seat p address f to = (p ≡ seat) × IsDropped config past a p address f false to
IsEvict evict.Leave config past a seat p address f to = IsLeavingEvict config past a p address f to
IsEvict evict.Rundown config past a seat p address f to = IsRundownEvict config past a seat p address f to

abbrev pub victim_of : Choice → ℕ
victim_of (Victim slot) = slot
victim_of other = 0

-- the slot is empty, and its marks are gone; after a replacement the hand stands on it
abbrev pub evicted_ring : EvictWhy → Ring → ℕ → ℕ → Ring
evicted_ring evict.Replace ring limit v = cleared ring (victim_of (choose ring limit))
evicted_ring other ring limit v = record ring { slots = slice_set ring.slots (slot_with ring v) None }

-- the entry isn't valid any more, and the frame goes where it goes
abbrev pub after_evict : Pager → EvictWhy → ℕ → ℕ → ℕ → FrameState → Pager
after_evict a why p address f to =
    record a {
      state = at_number a.state f to;
      free = pushed_if (is state.Free to) a.free f;
      modified = pushed_if (is state.Modified to) a.modified f;
      ring = at_number a.ring p (evicted_ring why (a.ring p) (a.limit p) (page_number address));
      valid = without_entry a.valid p (page_number address);
    }
