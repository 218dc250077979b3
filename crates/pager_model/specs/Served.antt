-- SERVED: a service is answered. Source: Kenah and Bate, "VAX/VMS Internals and Data Structures", memory
-- management system services ($CRETVA, $DELTVA, $SETPRT, $LKWSET, $ULWSET, $PURGWS, $LCKPAG, $ULKPAG, $ADJWSL); their
-- profile, with its refusals and counts, is this project's own.
use Rattle.std.specs.Prelude.{◌≡◌, ◌⊎◌, ℕ, Bool, true, false, ◌+◌, ◌<◌, ◌≤◌, ◌&&◌, List, Option, Some, None, length, count_by, slice_get}
use Rattle.std.specs.Option.{option_map}
use Rattle.vm_types.specs.Ring.{Ring, Held, fixed, is_fixed_slot, is_locked_slot, is_pinned_slot}
use Rattle.vm_types.specs.WellFormed.{IsServiceOf}
use Rattle.vm_types.specs.declared.names.Page.{Page}
use Rattle.vm_types.specs.declared.names.Page.TheVariants.{Private}
use Rattle.vm_types.specs.declared.names.ProcStatus.TheVariants as status
use Rattle.vm_types.specs.declared.config.Config.{Config}
use Rattle.vm_types.specs.declared.config.ProcSpec.{ProcSpec}
use Rattle.vm_types.specs.declared.reply.Answer.{Answer}
use Rattle.vm_types.specs.declared.reply.Answer.TheVariants as answer
use Rattle.vm_types.specs.declared.service.Service.{Service}
use Rattle.vm_types.specs.declared.service.Service.TheVariants as service
use Rattle.vm_journal.specs.declared.entry.Entry.{Entry}
use Rattle.pager_model.specs.Carrier.{HasLost}
use Rattle.pager_model.specs.FlatService.{demand_zero, in_range, with_prot}
use Rattle.pager_model.specs.Flights.{open_flights}
use Rattle.pager_model.specs.Forget.{after_delete, remapped}
use Rattle.pager_model.specs.Lookups.{entries_at, page_by}
use Rattle.pager_model.specs.Maps.{Mapped, proc}
use Rattle.pager_model.specs.Own.{IsResident}
use Rattle.pager_model.specs.Pager.{Pager}
use Rattle.pager_model.specs.Ring.{range_locked, range_pinned}
use Rattle.pager_model.specs.Sets.{at_number}
use Rattle.pager_model.specs.Transfers.{reads_on, writes_on}

-- each page of the range is mapped
abbrev pub AreMapped : Config → Pager → ℕ → ℕ → ℕ → Type 0
AreMapped config a p address pages = (v : ℕ) → in_range address pages v ≡ true → (g : Page) × (page_by config a.map p v ≡ Some g)

-- some page of the range isn't mapped
pub record IsUnmapped (config : Config) (a : Pager) (p address pages : ℕ) : Type 0 where
  pub v : ℕ
  pub inside : in_range address pages v ≡ true
  pub unmapped : page_by config a.map p v ≡ None

-- some page of the range is mapped
pub record IsInUse (config : Config) (a : Pager) (p address pages : ℕ) : Type 0 where
  pub v : ℕ
  pub inside : in_range address pages v ≡ true
  pub page : Page
  pub mapped : page_by config a.map p v ≡ Some page

-- all pages of the range are mapped, none is valid, and none of its private pages is in flight
pub record IsDelete (config : Config) (past : List Entry) (a : Pager) (p address pages : ℕ) : Type 0 where
  pub mapped : AreMapped config a p address pages
  pub not_valid : (v : ℕ) → in_range address pages v ≡ true → entries_at a.valid p v ≡ 0
  pub not_in_flight : (v f : ℕ) → in_range address pages v ≡ true → a.page f ≡ Some (Private (proc p) v) → reads_on f (open_flights past) + writes_on f (open_flights past) ≡ 0

-- whether the slot has a page of the range, and whether that is locked
abbrev pub is_slot_in : ℕ → ℕ → Option Held → Bool
is_slot_in address pages None = false
is_slot_in address pages (Some held) = in_range address pages held.vpn

abbrev pub is_locked_in : ℕ → ℕ → Option Held → Bool
is_locked_in address pages slot = is_slot_in address pages slot && is_locked_slot slot

abbrev pub is_fixed_in : ℕ → ℕ → Option Held → Bool
is_fixed_in address pages slot = is_slot_in address pages slot && is_fixed_slot slot

abbrev pub is_pinned_in : ℕ → ℕ → Option Held → Bool
is_pinned_in address pages slot = is_slot_in address pages slot && is_pinned_slot slot

-- the valid pages of the range are locked, or pinned, which makes the ring this one: its locked and pinned pages,
-- each counted once, are within the process's bound, and the pages of the range are counted
pub record IsLocking (config : Config) (a : Pager) (p address pages : ℕ) (ring : Ring) (n : ℕ) : Type 0 where
  pub mapped : AreMapped config a p address pages
  pub fits : (spec : ProcSpec) → slice_get config.procs p ≡ Some spec → fixed ring.slots ≤ spec.locks
  pub counted : n ≡ count_by (is_slot_in address pages) (a.ring p).slots

pub record IsOverLocking (config : Config) (a : Pager) (p address pages : ℕ) (ring : Ring) : Type 0 where
  pub mapped : AreMapped config a p address pages
  pub spec : ProcSpec
  pub process : slice_get config.procs p ≡ Some spec
  pub over : spec.locks < fixed ring.slots

-- by service and answer, but for a disk fault; a pair that isn't here is illegal
abbrev pub IsService : Config → List Entry → Pager → ℕ → Service → Answer → Type 0
IsService config past a p (service.Create at pages prot) answer.Good = (v : ℕ) → in_range at.0 pages v ≡ true → a.map p v ≡ None
IsService config past a p (service.Create at pages prot) answer.InUse = IsInUse config a p at.0 pages
IsService config past a p (service.Delete at pages) answer.Good = IsDelete config past a p at.0 pages
IsService config past a p (service.Delete at pages) answer.Unmapped = IsUnmapped config a p at.0 pages
IsService config past a p (service.Protect at pages prot) answer.Good = AreMapped config a p at.0 pages
IsService config past a p (service.Protect at pages prot) answer.Unmapped = IsUnmapped config a p at.0 pages
IsService config past a p (service.Lock at pages) (answer.Count n) = IsLocking config a p at.0 pages (range_locked true at.0 pages (a.ring p)) n
IsService config past a p (service.Lock at pages) answer.Unmapped = IsUnmapped config a p at.0 pages
IsService config past a p (service.Lock at pages) answer.LockLimit = IsOverLocking config a p at.0 pages (range_locked true at.0 pages (a.ring p))
IsService config past a p (service.Unlock at pages) (answer.Count n) = AreMapped config a p at.0 pages × (n ≡ count_by (is_locked_in at.0 pages) (a.ring p).slots)
IsService config past a p (service.Unlock at pages) answer.Unmapped = IsUnmapped config a p at.0 pages
IsService config past a p (service.Purge at pages) answer.Good = count_by (is_slot_in at.0 pages) (a.ring p).slots ≡ count_by (is_fixed_in at.0 pages) (a.ring p).slots
IsService config past a p (service.Pin at pages) (answer.Count n) = IsLocking config a p at.0 pages (range_pinned true at.0 pages (a.ring p)) n
IsService config past a p (service.Pin at pages) answer.Unmapped = IsUnmapped config a p at.0 pages
IsService config past a p (service.Pin at pages) answer.LockLimit = IsOverLocking config a p at.0 pages (range_pinned true at.0 pages (a.ring p))
IsService config past a p (service.Unpin at pages) (answer.Count n) = AreMapped config a p at.0 pages × (n ≡ count_by (is_pinned_in at.0 pages) (a.ring p).slots)
IsService config past a p (service.Unpin at pages) answer.Unmapped = IsUnmapped config a p at.0 pages
IsService config past a p (service.Adjust n) answer.Good = (spec : ProcSpec) → slice_get config.procs p ≡ Some spec → (spec.locks + 2 ≤ n) × (n ≤ spec.extent)
IsService config past a p (service.Adjust n) answer.BadLimit = (spec : ProcSpec) × (slice_get config.procs p ≡ Some spec) × ((n < spec.locks + 2) ⊎ (spec.extent < n))
IsService config past a p s other = ⊥

-- the services that may meet a failed transfer of a resident process
abbrev pub may_fail : Service → Bool
may_fail (service.Delete at pages) = true
may_fail (service.Purge at pages) = true
may_fail other = false

-- refused for a lost carrier: of a process that isn't resident, or such a service
pub record IsServedFault (config : Config) (past : List Entry) (a : Pager) (p : ℕ) (s : Service) : Type 0 where
  pub lost : HasLost past p
  pub process : p < length config.procs
  pub waits : (a.status p ≡ status.Resident → ⊥) ⊎ (may_fail s ≡ true)
  pub known : IsServiceOf config.version s

-- pages are pinned in version 2 alone
abbrev pub IsServed : Config → List Entry → Pager → ℕ → Service → Answer → Type 0
IsServed config past a p s answer.DiskFault = IsServedFault config past a p s
IsServed config past a p s other = IsResident config a p × IsService config past a p s other × IsServiceOf config.version s

abbrev pub with_ring : Pager → ℕ → Ring → Pager
with_ring a p ring = record a { ring = at_number a.ring p ring }

abbrev pub with_limit : Pager → ℕ → ℕ → Pager
with_limit a p n = record a { limit = at_number a.limit p n }

abbrev pub after_served : Config → Pager → ℕ → Service → Answer → Pager
after_served config a p (service.Create at pages prot) answer.Good = remapped (λ (old : Option Mapped). Some (demand_zero prot)) p at.0 pages a
after_served config a p (service.Delete at pages) answer.Good = after_delete config a p at.0 pages
after_served config a p (service.Protect at pages prot) answer.Good = remapped (option_map (with_prot prot)) p at.0 pages a
after_served config a p (service.Lock at pages) (answer.Count n) = with_ring a p (range_locked true at.0 pages (a.ring p))
after_served config a p (service.Unlock at pages) (answer.Count n) = with_ring a p (range_locked false at.0 pages (a.ring p))
after_served config a p (service.Pin at pages) (answer.Count n) = with_ring a p (range_pinned true at.0 pages (a.ring p))
after_served config a p (service.Unpin at pages) (answer.Count n) = with_ring a p (range_pinned false at.0 pages (a.ring p))
after_served config a p (service.Adjust n) answer.Good = with_limit a p n
after_served config a p s other = a
