-- The invariants of the page database, each with its name. Source: Kenah and Bate, "VAX/VMS
-- Internals and Data Structures", PFN database and working set list; the points on transfers,
-- charges and swap blocks are this project's own.
use Rattle.std.specs.Prelude.{◌≡◌, ◌⊎◌, ℕ, Bool, true, false, ◌+◌, ◌<◌, ◌≤◌, ◌&&◌, ◌||◌, List, Option, Some, None, length, map, slice_get, nat_eq, nat_lt}
use Rattle.std.specs.List.{AllByRecursion, IsDistinct}
use Rattle.vm_types.specs.Configuration.{pins_of}
use Rattle.vm_types.specs.Ring.{Ring, Held, filled, fixed, pinned, unpinned}
use Rattle.vm_types.specs.Same.{same_page, same_block}
use Rattle.vm_types.specs.declared.names.Page.{Page}
use Rattle.vm_types.specs.declared.names.SecId.{SecId}
use Rattle.vm_types.specs.declared.names.Page.TheVariants.{Private, Shared}
use Rattle.vm_types.specs.declared.names.FrameState.{FrameState}
use Rattle.vm_types.specs.declared.names.FrameState.TheVariants as state
use Rattle.vm_types.specs.declared.names.BlockId.{BlockId}
use Rattle.vm_types.specs.declared.names.BlockId.TheVariants as block
use Rattle.vm_types.specs.declared.names.ProcStatus.{ProcStatus}
use Rattle.vm_types.specs.declared.names.ProcStatus.TheVariants as status
use Rattle.vm_types.specs.declared.config.Config.{Config}
use Rattle.vm_types.specs.declared.config.ProcSpec.{ProcSpec}
use Rattle.vm_types.specs.declared.config.Version.{Version}
use Rattle.vm_journal.specs.declared.entry.Entry.{Entry}
use Rattle.vm_journal.specs.declared.entry.Role.{Role}
use Rattle.vm_journal.specs.declared.entry.Role.TheVariants as role
use Rattle.pager_model.specs.Flights.{Direction, Flight, failed_flight, has_failed_read, has_flight, has_read, has_write, open_flights, reading, writing}
use Rattle.pager_model.specs.Lookups.{block_of, entries_at, entry_of, is, is_of, own_section, page_by, pins_with, shares, slot_of, slots_with}
use Rattle.pager_model.specs.Maps.{is_paged, is_private, page_number, paged_of, proc}
use Rattle.pager_model.specs.Opening.{is_bad}
use Rattle.pager_model.specs.Pager.{Assigned, Pager, Valid}
use Rattle.pager_model.specs.Sets.{has, has_page}
use Rattle.pager_model.specs.Transfers.{is_fault_role}

-- the frame holds the page
abbrev pub Holds : Pager → ℕ → Page → Type 0
Holds a f page = a.page f ≡ Some page

-- each frame has one state; the bad ones are those of the configuration, and hold nothing
pub record HasBadFrames (config : Config) (a : Pager) : Type 0 where
  pub bad : (f : ℕ) → is state.Bad (a.state f) ≡ is_bad config f
  pub empty : (f : ℕ) → is_bad config f ≡ true → a.page f ≡ None

-- the free list holds exactly the free frames, the modified list exactly the modified ones, each once
pub record HasLists (a : Pager) : Type 0 where
  pub free : (f : ℕ) → has a.free f ≡ is state.Free (a.state f)
  pub modified : (f : ℕ) → has a.modified f ≡ is state.Modified (a.state f)
  pub free_once : IsDistinct nat_eq a.free
  pub modified_once : IsDistinct nat_eq a.modified

-- a frame is active exactly where valid entries share it, reading exactly where a read is open on
-- it, writing or release pending exactly where no entry shares it and a write is open on it, and in
-- read error exactly between the failed read and the reuse
pub record HasStates (past : List Entry) (a : Pager) : Type 0 where
  pub active : (f : ℕ) → is state.Active (a.state f) ≡ nat_lt 0 (shares a.valid f)
  pub reading : (f : ℕ) → is state.Reading (a.state f) ≡ has_read f (open_flights past)
  pub writing : (f : ℕ) → (is state.Writing (a.state f) || is state.ReleasePending (a.state f)) ≡ (nat_eq (shares a.valid f) 0 && has_write f (open_flights past))
  pub read_error : (f : ℕ) → is state.ReadError (a.state f) ≡ has_failed_read f past

-- only bad and free frames hold no page, no page is held twice, and the modify marks fit the lists
pub record HasPages (a : Pager) : Type 0 where
  pub empty : (f : ℕ) → a.page f ≡ None → (is state.Bad (a.state f) || is state.Free (a.state f)) ≡ true
  pub once : (f g : ℕ) (page : Page) → Holds a f page → Holds a g page → f ≡ g
  pub modified : (f : ℕ) → is state.Modified (a.state f) ≡ true → a.modify f ≡ true
  pub clear : (f : ℕ) → (is state.Free (a.state f) || (is state.Reading (a.state f) || is state.ReadError (a.state f))) ≡ true → a.modify f ≡ false

-- a valid entry is for the frame that holds its page, and the filled slots of a ring are exactly
-- its process's valid entries, each once
pub record HasEntries (config : Config) (a : Pager) : Type 0 where
  pub holds : (p v : ℕ) (e : Valid) → entry_of a.valid p v ≡ Some e → (page : Page) × (page_by config a.map p v ≡ Some page) × Holds a e.frame page
  pub once : (p v : ℕ) → entries_at a.valid p v ≤ 1
  pub slots : (p v : ℕ) → slots_with (a.ring p) v ≡ entries_at a.valid p v

-- no frame and no block has two open flights
pub record HasFlights (past : List Entry) : Type 0 where
  pub frames : IsDistinct nat_eq (map (λ (x : Flight). x.frame) (open_flights past))
  pub blocks : IsDistinct same_block (map (λ (x : Flight). x.block) (open_flights past))

-- touched pages are charged, the charged fit the page file; assigned blocks differ and belong to
-- charged pages, one at most to each; a page of a section with a file lies in its block, and a page that
-- lies in a page file block has that block assigned
pub record HasCharges (config : Config) (a : Pager) : Type 0 where
  pub touched : (page : Page) → has_page a.touched page ≡ true → has_page a.charged page ≡ true
  pub fit : length a.charged ≤ config.pagefile
  pub once : IsDistinct same_page a.charged
  pub touched_once : IsDistinct same_page a.touched
  pub blocks : IsDistinct nat_eq (map (λ (x : Assigned). x.block) a.assigned)
  pub one_each : IsDistinct same_page (map (λ (x : Assigned). x.page) a.assigned)
  pub belong : AllByRecursion (λ (x : Assigned). has_page a.charged x.page ≡ true) a.assigned
  pub shared : (s : SecId) (i : ℕ) → paged_of (slice_get config.sections s.0) ≡ false → a.lies (Shared s i) ≡ Some (block.Section s i)
  pub lies : (page : Page) (b : ℕ) → a.lies page ≡ Some (block.PageFile b) → block_of a.assigned page ≡ Some b

-- a slot of process p is empty or holds the page
abbrev pub FitsSlot : ℕ → Option Held → Page → Type 0
FitsSlot p None page = Unit {0}
FitsSlot p (Some held) (Private q v) = (q.0 ≡ p) × (held.vpn ≡ v)
FitsSlot p (Some held) (Shared s i) = ⊥

-- how many slots have the private page pinned
abbrev pub pins_of_page : Ring → Page → ℕ
pins_of_page ring (Private p v) = pins_with ring v
pins_of_page ring (Shared s i) = 0

-- where a page that lies in a swap block may be: its frame is Free, Reading or ReadError, or Active if p is leaving
abbrev pub is_out_state : FrameState → Bool
is_out_state s = is state.Free s || (is state.Reading s || is state.ReadError s)

abbrev pub MayHoldSwapped : FrameState → ProcStatus → Type 0
MayHoldSwapped s t = (is_out_state s ≡ true) ⊎ ((t ≡ status.Leaving) × (is state.Active s ≡ true))

-- a page that lies in a swap block of p is p's, p isn't resident, no other page lies there, the slot
-- is there and is empty or holds that page, no slot has the page pinned, and the page is out, or its frame is
-- Free, Reading or ReadError, or, if p is leaving, Active
pub record IsSwapped (lies : Page → Option BlockId) (status_of : ℕ → ProcStatus) (ring : ℕ → Ring) (state_of : ℕ → FrameState) (page : ℕ → Option Page) (g : Page) (p n : ℕ) : Type 0 where
  pub own : is_of p g ≡ true
  pub away : status_of p ≡ status.Resident → ⊥
  pub alone : (other : Page) → lies other ≡ lies g → other ≡ g
  pub within : n < length (ring p).slots
  pub slot : FitsSlot p (slot_of (slice_get (ring p).slots n)) g
  pub unpinned : pins_of_page (ring p) g ≡ 0
  pub frame : (f : ℕ) → page f ≡ Some g → MayHoldSwapped (state_of f) (status_of p)

abbrev pub HasSwapped : (Page → Option BlockId) → (ℕ → ProcStatus) → (ℕ → Ring) → (ℕ → FrameState) → (ℕ → Option Page) → Type 0
HasSwapped lies status_of ring state_of page =
    (g : Page) (p n : ℕ) → lies g ≡ Some (block.Swap (proc p) n) → IsSwapped lies status_of ring state_of page g p n

abbrev pub IsPagedMapped : Config → Pager → Page → Type 0
IsPagedMapped config a (Private p v) = page_by config a.map p.0 v ≡ Some (Private p v)
IsPagedMapped config a (Shared s i) = paged_of (slice_get config.sections s.0) ≡ true

-- a charged page that lies nowhere is in a frame with modify set, an open flight or a read error; a paged
-- page that lies somewhere or is held is charged; a charged page is paged, and mapped if it is private
pub record HasContents (config : Config) (past : List Entry) (a : Pager) : Type 0 where
  pub nowhere : (page : Page) → has_page a.charged page ≡ true → a.lies page ≡ None
      → (f : ℕ) × Holds a f page × ((a.modify f || (has_flight f (open_flights past) || has_failed_read f past)) ≡ true)
  pub lying : (page : Page) (b : BlockId) → is_paged config page ≡ true → a.lies page ≡ Some b → has_page a.charged page ≡ true
  pub held : (page : Page) (f : ℕ) → is_paged config page ≡ true → Holds a f page → has_page a.charged page ≡ true
  pub mapped : (page : Page) → has_page a.charged page ≡ true → IsPagedMapped config a page

-- at most `locks` slots are locked or pinned, and in version 1 none is pinned; a limit is from locks + 2 to the
-- extent, and a ring has as many slots as the extent
pub record IsBounded (v : Version) (spec : ProcSpec) (ring : Ring) (limit : ℕ) : Type 0 where
  pub locks : fixed ring.slots ≤ spec.locks
  pub pins : pinned ring.slots ≤ pins_of v spec
  pub least : spec.locks + 2 ≤ limit
  pub most : limit ≤ spec.extent
  pub slots : length ring.slots ≡ spec.extent
  pub hand : ring.hand < spec.extent

abbrev pub HasLimits : Config → Pager → Type 0
HasLimits config a = (p : ℕ) (spec : ProcSpec) → slice_get config.procs p ≡ Some spec → IsBounded config.version spec (a.ring p) (a.limit p)

-- at most one process is coming; a gone one has pinned pages alone, a coming one private and pinned pages alone
pub record HasStatuses (config : Config) (a : Pager) : Type 0 where
  pub coming : (p q : ℕ) → a.status p ≡ status.Coming → a.status q ≡ status.Coming → p ≡ q
  pub gone : (p : ℕ) → a.status p ≡ status.Gone → unpinned (a.ring p).slots ≡ 0
  pub private : (p v : ℕ) (e : Valid) (page : Page) → a.status p ≡ status.Coming → entry_of a.valid p v ≡ Some e → page_by config a.map p v ≡ Some page → (is_private page ≡ true) ⊎ (0 < pins_with (a.ring p) v)

-- a read of role FAULT is its seat's own, for a resident process whose entry is mapped to the page and
-- not valid and whose count is below its limit; a read of role NEAR is of its page; one of role COME is
-- of a page of a coming process, from a swap block of it
abbrev pub ReadsFor : Config → Pager → Flight → Role → Page → Type 0
ReadsFor config a x (role.Fault p address) page =
    (x.seat ≡ p.0) × (a.status p.0 ≡ status.Resident) × (page_by config a.map p.0 (page_number address.0) ≡ Some page)
    × (entry_of a.valid p.0 (page_number address.0) ≡ None) × (filled (a.ring p.0).slots < a.limit p.0)
ReadsFor config a x (role.Near near) page = near ≡ page
ReadsFor config a x (role.Come p address) page =
    (a.status p.0 ≡ status.Coming) × (page_by config a.map p.0 (page_number address.0) ≡ Some page) × ((n : ℕ) × (x.block ≡ block.Swap p n))

-- the first read of a copy on reference page: of role FAULT, from the section block behind it; the page
-- is charged, not touched, without a block, and lies nowhere
pub record IsFirstReading (config : Config) (a : Pager) (x : Flight) (r : Role) (page : Page) : Type 0 where
  pub fault : is_fault_role r ≡ true
  pub private : is_private page ≡ true
  pub behind : own_section a.map page ≡ Some x.block
  pub charged : has_page a.charged page ≡ true
  pub untouched : has_page a.touched page ≡ false
  pub unassigned : block_of a.assigned page ≡ None
  pub nowhere : a.lies page ≡ None

-- an open read is from the block in which the page lies, or a first one
abbrev pub ReadsFrom : Config → Pager → Flight → Role → Page → Type 0
ReadsFrom config a x r page = (a.lies page ≡ Some x.block) ⊎ IsFirstReading config a x r page

-- an open write is to the section block of a page with a file, to the page file block assigned to the
-- page, or to the swap block of a leaving process's slot that holds the page, unpinned
pub record WritesSlot (a : Pager) (x : Flight) (page : Page) : Type 0 where
  pub p : ℕ
  pub n : ℕ
  pub block : x.block ≡ block.Swap (proc p) n
  pub own : is_of p page ≡ true
  pub leaving : a.status p ≡ status.Leaving
  pub held : Held
  pub slot : slice_get (a.ring p).slots n ≡ Some (Some held)
  pub fits : FitsSlot p (Some held) page
  pub unpinned : held.pinned ≡ false

abbrev pub WritesTo : Config → Pager → Flight → Page → Type 0
WritesTo config a x page =
    ((is_paged config page ≡ false) × (a.lies page ≡ Some x.block))
    ⊎ (((b : ℕ) × (block_of a.assigned page ≡ Some b) × (x.block ≡ block.PageFile b)) ⊎ WritesSlot a x page)

abbrev pub GoesRight : Config → Pager → Flight → Direction → Page → Type 0
GoesRight config a x (reading r) page = ReadsFrom config a x r page × ReadsFor config a x r page
GoesRight config a x writing page = WritesTo config a x page

-- an open flight's frame holds a page, which its block is right for
abbrev pub IsFlightSound : Config → Pager → Flight → Type 0
IsFlightSound config a x = (page : Page) × Holds a x.frame page × GoesRight config a x x.direction page

-- the frame in read error is that of the read that failed last, which was right in the same way
pub record IsFailureSound (config : Config) (past : List Entry) (a : Pager) (f : ℕ) : Type 0 where
  pub flight : Flight
  pub failed : failed_flight past ≡ Some flight
  pub frame : flight.frame ≡ f
  pub role : Role
  pub reads : flight.direction ≡ reading role
  pub page : Page
  pub holds : Holds a f page
  pub from : ReadsFrom config a flight role page

-- the thirteen points
pub record IsSound (config : Config) (past : List Entry) (a : Pager) : Type 0 where
  pub bad_frames : HasBadFrames config a
  pub lists : HasLists a
  pub states : HasStates past a
  pub pages : HasPages a
  pub entries : HasEntries config a
  pub flights : HasFlights past
  pub charges : HasCharges config a
  pub swapped : HasSwapped a.lies a.status a.ring a.state a.page
  pub contents : HasContents config past a
  pub limits : HasLimits config a
  pub statuses : HasStatuses config a
  pub transfers : AllByRecursion (IsFlightSound config a) (open_flights past)
  pub failed : (f : ℕ) → has_failed_read f past ≡ true → IsFailureSound config past a f
