-- What every legal step keeps, said of one thing and what is around it: the working form of soundness.
-- This project's own.
use Rattle.std.specs.Prelude.{◌≡◌, ◌⊎◌, ℕ, Bool, true, false, ◌+◌, ◌<◌, ◌≤◌, ◌||◌, List, Option, Some, None, length, map, slice_get, nat_lt, if◌then◌else◌}
use Rattle.std.specs.List.{AllByRecursion}
use Rattle.vm_types.specs.Ring.{Held, filled, unpinned}
use Rattle.vm_types.specs.declared.names.Page.{Page}
use Rattle.vm_types.specs.declared.names.SecId.{SecId}
use Rattle.vm_types.specs.declared.names.Page.TheVariants.{Shared}
use Rattle.vm_types.specs.declared.names.FrameState.{FrameState}
use Rattle.vm_types.specs.declared.names.FrameState.TheVariants as state
use Rattle.vm_types.specs.declared.names.BlockId.{BlockId}
use Rattle.vm_types.specs.declared.names.BlockId.TheVariants as block
use Rattle.vm_types.specs.declared.names.ProcStatus.{ProcStatus}
use Rattle.vm_types.specs.declared.names.ProcStatus.TheVariants as status
use Rattle.vm_types.specs.declared.config.Config.{Config}
use Rattle.vm_types.specs.declared.config.ProcSpec.{ProcSpec}
use Rattle.vm_journal.specs.declared.entry.Role.{Role}
use Rattle.vm_journal.specs.declared.entry.Role.TheVariants as role
use Rattle.pager_model.specs.Around.{BlockView, EntryView, FrameView, PageView, PastView, ProcessView, block_view, entry_view, frame_view, page_view, process_view}
use Rattle.pager_model.specs.Flights.{Direction, Flight, reading, writing}
use Rattle.pager_model.specs.Lookups.{count_page, is, is_of, page_by}
use Rattle.pager_model.specs.Maps.{Map, is_paged, is_private, page_number, proc}
use Rattle.pager_model.specs.Pager.{Pager, Valid}
use Rattle.pager_model.specs.Sound.{FitsSlot, HasSwapped, IsBounded}
use Rattle.pager_model.specs.Transfers.{faults_of, is_fault_role}

abbrev pub one_if : Bool → ℕ
one_if b = if b then 1 else 0

-- a frame, by its state: the entries that share it, the writes that are open on it, its page, its mark
abbrev pub HasShares : FrameState → ℕ → Type 0
HasShares state.Active n = 0 < n
HasShares other n = n ≡ 0

abbrev pub HasWrites : FrameState → ℕ → Type 0
HasWrites state.Active n = n ≤ 1
HasWrites state.Writing n = n ≡ 1
HasWrites state.ReleasePending n = n ≡ 1
HasWrites other n = n ≡ 0

abbrev pub FitsState : FrameState → Option Page → Type 0
FitsState state.Free page = Unit {0}
FitsState state.Bad page = page ≡ None
FitsState other page = (g : Page) × (page ≡ Some g)

abbrev pub HasMark : FrameState → Bool → Type 0
HasMark state.Modified m = m ≡ true
HasMark state.Free m = m ≡ false
HasMark state.Reading m = m ≡ false
HasMark state.ReadError m = m ≡ false
HasMark other m = Unit {0}

pub record FitsFrame (x : FrameView) : Type 0 where
  pub bad : x.bad ≡ is state.Bad x.state
  pub on_free : x.on_free ≡ one_if (is state.Free x.state)
  pub on_modified : x.on_modified ≡ one_if (is state.Modified x.state)
  pub shares : HasShares x.state x.shares
  pub reads : x.reads ≡ one_if (is state.Reading x.state)
  pub writes : HasWrites x.state x.writes
  pub failed : x.failed ≡ is state.ReadError x.state
  pub page : FitsState x.state x.page
  pub mark : HasMark x.state x.modify

-- a process; one that isn't there has no slots
pub record FitsProcess (x : ProcessView) : Type 0 where
  pub bounds : (spec : ProcSpec) → x.spec ≡ Some spec → IsBounded x.version spec x.ring x.limit
  pub gone : x.status ≡ status.Gone → unpinned x.ring.slots ≡ 0
  pub none : x.spec ≡ None → (x.limit ≡ 0) × (length x.ring.slots ≡ 0)

-- a page table entry
pub record FitsEntry (x : EntryView) : Type 0 where
  pub once : x.entries ≤ 1
  pub slots : x.slots ≡ x.entries
  pub coming : (g : Page) → x.status ≡ status.Coming → 0 < x.entries → x.mapped ≡ Some g → (is_private g ≡ true) ⊎ (0 < x.pins)

abbrev pub IsForItsPage : Config → Map → (ℕ → Option Page) → Valid → Type 0
IsForItsPage config map page e = (g : Page) × (page_by config map e.proc e.vpn ≡ Some g) × (page e.frame ≡ Some g)

-- a page
pub record FitsPage (g : Page) (x : PageView) : Type 0 where
  pub paged : 0 < x.charged → x.paged ≡ true
  pub charged : x.charged ≤ 1
  pub touched : x.touched ≤ x.charged
  pub blocks : x.blocks ≤ x.charged
  pub mapped : 0 < x.charged → is_private g ≡ true → x.mapped ≡ Some g
  pub lying : (b : BlockId) → x.paged ≡ true → x.lies ≡ Some b → x.charged ≡ 1
  pub in_file : (b : ℕ) → x.lies ≡ Some (block.PageFile b) → x.block ≡ Some b
  pub not_in_section : (s : SecId) (i : ℕ) → x.paged ≡ true → x.lies ≡ Some (block.Section s i) → ⊥
  pub shared : (s : SecId) (i : ℕ) → g ≡ Shared s i → x.paged ≡ false → x.lies ≡ Some (block.Section s i)

-- a block
pub record FitsBlock (x : BlockView) : Type 0 where
  pub owners : x.owners ≤ 1
  pub flights : x.flights ≤ 1

-- facts about pairs
abbrev pub HeldOnce : (ℕ → Option Page) → Type 0
HeldOnce page = (f g : ℕ) (x : Page) → page f ≡ Some x → page g ≡ Some x → f ≡ g

abbrev pub HeldCharged : Config → (ℕ → Option Page) → List Page → Type 0
HeldCharged config page charged = (f : ℕ) (g : Page) → is_paged config g ≡ true → page f ≡ Some g → 0 < count_page charged g

-- a frame with modify set, an open flight or a read error
abbrev pub saves : FrameView → Bool
saves x = x.modify || (nat_lt 0 (x.reads + x.writes) || x.failed)

-- a charged page that lies nowhere is in such a frame
abbrev pub IsInFrame : Config → PastView → Pager → Page → Type 0
IsInFrame config o a g = (f : ℕ) × (a.page f ≡ Some g) × (saves (frame_view config o a f) ≡ true)

abbrev pub HasUnsaved : Config → PastView → Pager → Type 0
HasUnsaved config o a = (g : Page) → 0 < count_page a.charged g → a.lies g ≡ None → IsInFrame config o a g

abbrev pub ComingOnce : (ℕ → ProcStatus) → Type 0
ComingOnce status_of = (p q : ℕ) → status_of p ≡ status.Coming → status_of q ≡ status.Coming → p ≡ q

-- flights
pub record IsFirstRead (x : Flight) (r : Role) (g : Page) (view : PageView) : Type 0 where
  pub fault : is_fault_role r ≡ true
  pub private : is_private g ≡ true
  pub behind : view.behind ≡ Some x.block
  pub charged : view.charged ≡ 1
  pub untouched : view.touched ≡ 0
  pub unassigned : view.block ≡ None
  pub nowhere : view.lies ≡ None

abbrev pub FitsRead : Flight → Role → Page → PageView → Type 0
FitsRead x r g view = (view.lies ≡ Some x.block) ⊎ IsFirstRead x r g view

abbrev pub FitsRole : Flight → Page → (ℕ → ProcessView) → (ℕ → ℕ → EntryView) → Role → Type 0
FitsRole x g process entry (role.Fault p address) =
    (x.seat ≡ p.0) × ((process p.0).status ≡ status.Resident) × ((entry p.0 (page_number address.0)).mapped ≡ Some g)
    × ((entry p.0 (page_number address.0)).entries ≡ 0) × (filled (process p.0).ring.slots < (process p.0).limit)
FitsRole x g process entry (role.Near near) = near ≡ g
FitsRole x g process entry (role.Come p address) =
    ((process p.0).status ≡ status.Coming) × ((entry p.0 (page_number address.0)).mapped ≡ Some g) × ((n : ℕ) × (x.block ≡ block.Swap p n))

pub record IsSwapWrite (x : Flight) (g : Page) (process : ℕ → ProcessView) : Type 0 where
  pub p : ℕ
  pub n : ℕ
  pub block : x.block ≡ block.Swap (proc p) n
  pub own : is_of p g ≡ true
  pub leaving : (process p).status ≡ status.Leaving
  pub held : Held
  pub slot : slice_get (process p).ring.slots n ≡ Some (Some held)
  pub fits : FitsSlot p (Some held) g
  pub unpinned : held.pinned ≡ false

abbrev pub FitsWrite : Flight → Page → PageView → (ℕ → ProcessView) → Type 0
FitsWrite x g view process =
    ((view.paged ≡ false) × (view.lies ≡ Some x.block))
    ⊎ (((b : ℕ) × (view.block ≡ Some b) × (x.block ≡ block.PageFile b)) ⊎ IsSwapWrite x g process)

abbrev pub FitsDirection : Flight → Page → PageView → (ℕ → ProcessView) → (ℕ → ℕ → EntryView) → Direction → Type 0
FitsDirection x g view process entry (reading r) = FitsRead x r g view × FitsRole x g process entry r
FitsDirection x g view process entry writing = FitsWrite x g view process

-- what a flight's facts read of a state
pub record Views : Type 0 where
  pub held : ℕ → Option Page
  pub page : Page → PageView
  pub process : ℕ → ProcessView
  pub entry : ℕ → ℕ → EntryView

abbrev pub views : Config → Pager → Views
views config a = record { held = a.page; page = page_view config a; process = process_view config a; entry = entry_view config a }

-- an open flight's frame holds a page, which its block is right for
pub record FitsFlight (v : Views) (x : Flight) : Type 0 where
  pub page : Page
  pub held : v.held x.frame ≡ Some page
  pub fits : FitsDirection x page (v.page page) v.process v.entry x.direction

-- the read that failed last, while its frame awaits its reuse, was right in the same way
pub record FitsFailure (failed : ℕ → Bool) (v : Views) (x : Flight) : Type 0 where
  pub frame : failed x.frame ≡ true
  pub role : Role
  pub reads : x.direction ≡ reading role
  pub page : Page
  pub held : v.held x.frame ≡ Some page
  pub fits : FitsRead x role page (v.page page)

-- the frame in read error is the failed read's
pub record FitsFailed (o : PastView) (v : Views) : Type 0 where
  pub found : (f : ℕ) → o.failed f ≡ true → (x : Flight) × (o.failure ≡ Some x) × (x.frame ≡ f)
  pub fits : (x : Flight) → o.failure ≡ Some x → FitsFailure o.failed v x

pub record IsKept (config : Config) (o : PastView) (a : Pager) : Type 0 where
  pub frames : (f : ℕ) → FitsFrame (frame_view config o a f)
  pub processes : (p : ℕ) → FitsProcess (process_view config a p)
  pub entries : (p v : ℕ) → FitsEntry (entry_view config a p v)
  pub valid : AllByRecursion (IsForItsPage config a.map a.page) a.valid
  pub pages : (g : Page) → FitsPage g (page_view config a g)
  pub blocks : (b : BlockId) → FitsBlock (block_view o a b)
  pub fit : length a.charged ≤ config.pagefile
  pub held_once : HeldOnce a.page
  pub held_charged : HeldCharged config a.page a.charged
  pub unsaved : HasUnsaved config o a
  pub swapped : HasSwapped a.lies a.status a.ring a.state a.page
  pub coming_once : ComingOnce a.status
  pub transfers : AllByRecursion (FitsFlight (views config a)) o.flights
  pub one_fault : (s : ℕ) → faults_of s o.flights ≤ 1
  pub failed : FitsFailed o (views config a)
