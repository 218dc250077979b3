-- IN: a read begins, into the empty frame at the free list's head, of a block that is home. Its role
-- says for what: for the faulting page, for a neighbour in its cluster, or for a page of a process that
-- comes back. Source: Kenah and Bate, "VAX/VMS Internals and Data Structures", paging dynamics, page
-- reads and clusters, and inswap; that clusters go upwards only and by blocks is this project's own.
use Rattle.std.specs.Prelude.{◌≡◌, ◌⊎◌, ℕ, Bool, true, false, ◌+◌, ◌<◌, ◌&&◌, List, ◌∷◌, Option, Some, None, length, nat_eq, if◌then◌else◌}
use Rattle.vm_types.specs.Ring.{filled}
use Rattle.vm_types.specs.declared.names.Page.{Page}
use Rattle.vm_types.specs.declared.names.Page.TheVariants.{Private, Shared}
use Rattle.vm_types.specs.declared.names.FrameState.TheVariants as state
use Rattle.vm_types.specs.declared.names.BlockId.{BlockId}
use Rattle.vm_types.specs.declared.names.BlockId.TheVariants as block
use Rattle.vm_types.specs.declared.names.Proc.{Proc}
use Rattle.vm_types.specs.declared.names.ProcStatus.TheVariants as status
use Rattle.vm_types.specs.declared.config.Config.{Config}
use Rattle.vm_journal.specs.declared.entry.Entry.{Entry}
use Rattle.vm_journal.specs.declared.entry.Role.{Role}
use Rattle.vm_journal.specs.declared.entry.Role.TheVariants as role
use Rattle.page_lists.specs.Lists.{without}
use Rattle.pager_model.specs.Carrier.{carrying}
use Rattle.pager_model.specs.Flights.{Direction, Flight, is_busy, open_flights, reading}
use Rattle.pager_model.specs.Lookups.{count_page, page_by, section_at}
use Rattle.pager_model.specs.Maps.{is_private, page_number}
use Rattle.pager_model.specs.Own.{IsEmptyHead, IsResident}
use Rattle.pager_model.specs.Pager.{Pager}
use Rattle.pager_model.specs.Sets.{at_number}
use Rattle.pager_model.specs.Transfers.{IsHome}

-- the first read of a copy on reference page, from the section block behind it: it isn't charged yet,
-- and the page file has room
pub record IsFirstIn (config : Config) (a : Pager) (p v : ℕ) (b : BlockId) (g : Page) : Type 0 where
  pub private : is_private g ≡ true
  pub behind : section_at (a.map p v) ≡ Some b
  pub uncharged : count_page a.charged g ≡ 0
  pub room : length a.charged < config.pagefile

-- FAULT: a page of the seat's own process, which has room below its limit; the page is out, and lies in
-- the block or is read for the first time
pub record IsInFault (config : Config) (past : List Entry) (a : Pager) (p f : ℕ) (b : BlockId) (q address : ℕ) : Type 0 where
  pub own : IsResident config a p
  pub self : q ≡ p
  pub home : IsHome config b (open_flights past)
  pub frame : IsEmptyHead a f
  pub below_limit : filled (a.ring p).slots < a.limit p
  pub page : Page
  pub mapped : page_by config a.map p (page_number address) ≡ Some page
  pub out : (g : ℕ) → a.page g ≡ Some page → ⊥
  pub from : (a.lies page ≡ Some b) ⊎ IsFirstIn config a p (page_number address) b page

-- a page that is out and lies in the block
pub record IsInLying (config : Config) (past : List Entry) (a : Pager) (f : ℕ) (b : BlockId) (page : Page) : Type 0 where
  pub home : IsHome config b (open_flights past)
  pub frame : IsEmptyHead a f
  pub out : (g : ℕ) → a.page g ≡ Some page → ⊥
  pub lies : a.lies page ≡ Some b

abbrev pub is_fault_or_near : Direction → Bool
is_fault_or_near (reading (role.Fault q address)) = true
is_fault_or_near (reading (role.Near g)) = true
is_fault_or_near other = false

-- both private to one process, or both of one section
abbrev pub is_kin : Page → Page → Bool
is_kin (Private p v) (Private q w) = nat_eq p.0 q.0
is_kin (Shared s i) (Shared t j) = nat_eq s.0 t.0
is_kin g other = false

-- NEAR: the seat's last flight, still open, is a read of role FAULT or NEAR, of a page of its kin; that
-- this block is the next one is the rule of seats
pub record IsInNear (config : Config) (past : List Entry) (a : Pager) (seat f : ℕ) (b : BlockId) (page : Page) : Type 0 where
  pub busy : is_busy seat (open_flights past) ≡ true
  pub last : Flight
  pub lasts : (carrying seat past).last ≡ Some last
  pub role : is_fault_or_near last.direction ≡ true
  pub before : Page
  pub holds : a.page last.frame ≡ Some before
  pub kin : is_kin before page ≡ true
  pub lying : IsInLying config past a f b page

-- COME: a page of the coming process, by any seat, from the swap block of its slot
pub record IsInCome (config : Config) (past : List Entry) (a : Pager) (f : ℕ) (b : BlockId) (p : Proc) (address : ℕ) : Type 0 where
  pub page : Page
  pub mapped : page_by config a.map p.0 (page_number address) ≡ Some page
  pub coming : a.status p.0 ≡ status.Coming
  pub slot : ℕ
  pub block : b ≡ block.Swap p slot
  pub lying : IsInLying config past a f b page

abbrev pub IsIn : Role → Config → List Entry → Pager → ℕ → ℕ → BlockId → Type 0
IsIn (role.Fault q address) config past a p f b = IsInFault config past a p f b q.0 address.0
IsIn (role.Near g) config past a p f b = IsInNear config past a p f b g
IsIn (role.Come q address) config past a p f b = IsInCome config past a f b q address.0

-- a private page that isn't charged is charged
abbrev pub charged_with : List Page → Option Page → List Page
charged_with charged None = charged
charged_with charged (Some g) = if is_private g && nat_eq (count_page charged g) 0 then (g ∷ charged) else charged

-- the frame is reading and holds the page; for a fault one more fault is counted
abbrev pub after_in_fault : Config → Pager → ℕ → ℕ → ℕ → Pager
after_in_fault config a p address f =
    let g = page_by config a.map p (page_number address) in
    record a {
      state = at_number a.state f state.Reading;
      page = at_number a.page f g;
      free = without a.free f;
      faults = at_number a.faults p (a.faults p + 1);
      charged = charged_with a.charged g;
    }

abbrev pub after_in_lying : Pager → ℕ → Option Page → Pager
after_in_lying a f o = record a { state = at_number a.state f state.Reading; page = at_number a.page f o; free = without a.free f }

abbrev pub after_in : Config → Pager → ℕ → Role → Pager
after_in config a f (role.Fault q address) = after_in_fault config a q.0 address.0 f
after_in config a f (role.Near g) = after_in_lying a f (Some g)
after_in config a f (role.Come q address) = after_in_lying a f (page_by config a.map q.0 (page_number address.0))
