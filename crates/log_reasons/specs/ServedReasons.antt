-- What a condition of SERVED that doesn't hold states, by the service and its answer. This project's own.
use Rattle.std.specs.Prelude.{◌≡◌, ◌⊎◌, ◌<◌, ◌≤◌, ◌+◌, ℕ, Bool, true, false, List, Some, None, count_by, length, slice_get}
use Rattle.vm_types.specs.Ring.{Ring, fixed}
use Rattle.vm_types.specs.WellFormed.{IsServiceOf}
use Rattle.vm_types.specs.declared.config.Config.{Config}
use Rattle.vm_types.specs.declared.config.ProcSpec.{ProcSpec}
use Rattle.vm_types.specs.declared.names.Page.{Page}
use Rattle.vm_types.specs.declared.names.Page.TheVariants.{Private}
use Rattle.vm_types.specs.declared.names.ProcStatus.TheVariants as status
use Rattle.vm_types.specs.declared.reply.Answer.{Answer}
use Rattle.vm_types.specs.declared.reply.Answer.TheVariants as answer
use Rattle.vm_types.specs.declared.service.Service.{Service}
use Rattle.vm_types.specs.declared.service.Service.TheVariants as service
use Rattle.vm_journal.specs.declared.entry.Entry.{Entry}
use Rattle.pager_model.specs.Carrier.{HasLost}
use Rattle.pager_model.specs.FlatService.{in_range}
use Rattle.pager_model.specs.Flights.{open_flights}
use Rattle.pager_model.specs.Lookups.{entries_at, page_by}
use Rattle.pager_model.specs.Maps.{proc}
use Rattle.pager_model.specs.Pager.{Pager}
use Rattle.pager_model.specs.Ring.{range_locked, range_pinned}
use Rattle.pager_model.specs.Served.{AreMapped, IsInUse, IsUnmapped, is_fixed_in, is_locked_in, is_pinned_in, is_slot_in, may_fail}
use Rattle.pager_model.specs.Transfers.{reads_on, writes_on}
use Rattle.log_reasons.specs.declared.reason.Reason.{Reason}
use Rattle.log_reasons.specs.declared.reason.Reason.TheVariants as reason
use Rattle.log_reasons.specs.OwnReasons.{OwnFails}

-- no page of the range is mapped
abbrev pub UnmappedFails : Config → Pager → ℕ → ℕ → ℕ → Reason → Type 0
UnmappedFails config a p address pages (reason.RangePageMapped v) = (in_range address pages v ≡ true) × ((g : Page) × (page_by config a.map p v ≡ Some g))
UnmappedFails config a p address pages other = ⊥

-- some page of the range is mapped
abbrev pub InUseFails : Config → Pager → ℕ → ℕ → ℕ → Reason → Type 0
InUseFails config a p address pages reason.RangeNotInUse = IsInUse config a p address pages → ⊥
InUseFails config a p address pages other = ⊥

-- each page of the range is mapped
abbrev pub MappedFails : Config → Pager → ℕ → ℕ → ℕ → Reason → Type 0
MappedFails config a p address pages (reason.RangePageUnmapped v) = (in_range address pages v ≡ true) × (page_by config a.map p v ≡ None)
MappedFails config a p address pages other = ⊥

-- some page of the range isn't mapped
abbrev pub SomeUnmappedFails : Config → Pager → ℕ → ℕ → ℕ → Reason → Type 0
SomeUnmappedFails config a p address pages reason.RangeIsMapped = IsUnmapped config a p address pages → ⊥
SomeUnmappedFails config a p address pages other = ⊥

-- none of its private pages is in flight
abbrev pub NoneFlies : List Entry → Pager → ℕ → ℕ → ℕ → Type 0
NoneFlies past a p address pages = (v f : ℕ) → in_range address pages v ≡ true → a.page f ≡ Some (Private (proc p) v) → reads_on f (open_flights past) + writes_on f (open_flights past) ≡ 0

-- none of its pages is valid, and none of its private pages is in flight
abbrev pub QuietFails : List Entry → Pager → ℕ → ℕ → ℕ → Reason → Type 0
QuietFails past a p address pages reason.RangePageValid = ((v : ℕ) → in_range address pages v ≡ true → entries_at a.valid p v ≡ 0) → ⊥
QuietFails past a p address pages reason.RangePageInFlight = NoneFlies past a p address pages → ⊥
QuietFails past a p address pages other = ⊥

-- so many pages are within the process's bound
abbrev pub LocksFail : Config → ℕ → ℕ → Reason → Type 0
LocksFail config p count (reason.OverLocks n most) = (n ≡ count) × ((spec : ProcSpec) × (slice_get config.procs p ≡ Some spec) × (most ≡ spec.locks) × (most < n))
LocksFail config p count other = ⊥

-- they are above it
abbrev pub OverFails : Config → ℕ → ℕ → Reason → Type 0
OverFails config p count (reason.WithinLocks n most) = (n ≡ count) × ((spec : ProcSpec) × (slice_get config.procs p ≡ Some spec) × (most ≡ spec.locks) × (n ≤ most))
OverFails config p count (reason.NoSuchProcess n) = (n ≡ length config.procs) × (n ≤ p)
OverFails config p count other = ⊥

-- the count of pages is this one
abbrev pub CountFails : ℕ → ℕ → Reason → Type 0
CountFails right shown (reason.WrongPageCount n) = (n ≡ right) × (shown ≡ n → ⊥)
CountFails right shown other = ⊥

-- all valid pages of the range are locked or pinned
abbrev pub PurgeFails : Pager → ℕ → ℕ → ℕ → Reason → Type 0
PurgeFails a p address pages (reason.NotPurged valid fixed) =
    (valid ≡ count_by (is_slot_in address pages) (a.ring p).slots) × (fixed ≡ count_by (is_fixed_in address pages) (a.ring p).slots) × (valid ≡ fixed → ⊥)
PurgeFails a p address pages other = ⊥

-- the limit is within its bounds
abbrev pub LimitFails : Config → ℕ → ℕ → Reason → Type 0
LimitFails config p n (reason.LimitOutOfBounds least most) =
    (spec : ProcSpec) × (slice_get config.procs p ≡ Some spec) × (least ≡ spec.locks + 2) × (most ≡ spec.extent) × ((n < least) ⊎ (most < n))
LimitFails config p n other = ⊥

-- it isn't
abbrev pub BadLimitFails : Config → ℕ → ℕ → Reason → Type 0
BadLimitFails config p n (reason.LimitWithinBounds least most) =
    (spec : ProcSpec) × (slice_get config.procs p ≡ Some spec) × (least ≡ spec.locks + 2) × (most ≡ spec.extent) × (least ≤ n) × (n ≤ most)
BadLimitFails config p n (reason.NoSuchProcess m) = (m ≡ length config.procs) × (m ≤ p)
BadLimitFails config p n other = ⊥

-- the service has the answer
abbrev pub AnswerFails : Reason → Type 0
AnswerFails reason.NoSuchAnswer = Unit {0}
AnswerFails other = ⊥

-- pages would be fixed, so many together, and the valid ones are counted
abbrev pub LockingFails : Config → Pager → ℕ → ℕ → ℕ → Ring → ℕ → Reason → Type 0
LockingFails config a p address pages ring n r =
    MappedFails config a p address pages r ⊎ (LocksFail config p (fixed ring.slots) r ⊎ CountFails (count_by (is_slot_in address pages) (a.ring p).slots) n r)

abbrev pub OverLockingFails : Config → Pager → ℕ → ℕ → ℕ → Ring → Reason → Type 0
OverLockingFails config a p address pages ring r = MappedFails config a p address pages r ⊎ OverFails config p (fixed ring.slots) r

abbrev pub DeleteFails : Config → List Entry → Pager → ℕ → ℕ → ℕ → Reason → Type 0
DeleteFails config past a p address pages r = MappedFails config a p address pages r ⊎ QuietFails past a p address pages r

-- by service and answer, but for a disk fault
abbrev pub ServiceFails : Config → List Entry → Pager → ℕ → Service → Answer → Reason → Type 0
ServiceFails config past a p (service.Create at pages prot) answer.Good r = UnmappedFails config a p at.0 pages r
ServiceFails config past a p (service.Create at pages prot) answer.InUse r = InUseFails config a p at.0 pages r
ServiceFails config past a p (service.Delete at pages) answer.Good r = DeleteFails config past a p at.0 pages r
ServiceFails config past a p (service.Delete at pages) answer.Unmapped r = SomeUnmappedFails config a p at.0 pages r
ServiceFails config past a p (service.Protect at pages prot) answer.Good r = MappedFails config a p at.0 pages r
ServiceFails config past a p (service.Protect at pages prot) answer.Unmapped r = SomeUnmappedFails config a p at.0 pages r
ServiceFails config past a p (service.Lock at pages) (answer.Count n) r = LockingFails config a p at.0 pages (range_locked true at.0 pages (a.ring p)) n r
ServiceFails config past a p (service.Lock at pages) answer.Unmapped r = SomeUnmappedFails config a p at.0 pages r
ServiceFails config past a p (service.Lock at pages) answer.LockLimit r = OverLockingFails config a p at.0 pages (range_locked true at.0 pages (a.ring p)) r
ServiceFails config past a p (service.Unlock at pages) (answer.Count n) r = MappedFails config a p at.0 pages r ⊎ CountFails (count_by (is_locked_in at.0 pages) (a.ring p).slots) n r
ServiceFails config past a p (service.Unlock at pages) answer.Unmapped r = SomeUnmappedFails config a p at.0 pages r
ServiceFails config past a p (service.Purge at pages) answer.Good r = PurgeFails a p at.0 pages r
ServiceFails config past a p (service.Pin at pages) (answer.Count n) r = LockingFails config a p at.0 pages (range_pinned true at.0 pages (a.ring p)) n r
ServiceFails config past a p (service.Pin at pages) answer.Unmapped r = SomeUnmappedFails config a p at.0 pages r
ServiceFails config past a p (service.Pin at pages) answer.LockLimit r = OverLockingFails config a p at.0 pages (range_pinned true at.0 pages (a.ring p)) r
ServiceFails config past a p (service.Unpin at pages) (answer.Count n) r = MappedFails config a p at.0 pages r ⊎ CountFails (count_by (is_pinned_in at.0 pages) (a.ring p).slots) n r
ServiceFails config past a p (service.Unpin at pages) answer.Unmapped r = SomeUnmappedFails config a p at.0 pages r
ServiceFails config past a p (service.Adjust n) answer.Good r = LimitFails config p n r
ServiceFails config past a p (service.Adjust n) answer.BadLimit r = BadLimitFails config p n r
ServiceFails config past a p s other r = AnswerFails r

-- the version has the service
abbrev pub VersionFails : Config → Service → Reason → Type 0
VersionFails config s reason.NotOfVersion = IsServiceOf config.version s → ⊥
VersionFails config s other = ⊥

-- the seat's last carrier is lost, and the process isn't resident, or the service may meet a failed transfer
abbrev pub ServedFaultFails : Config → List Entry → Pager → ℕ → Service → Reason → Type 0
ServedFaultFails config past a p s (reason.NoSuchProcess n) = (n ≡ length config.procs) × (n ≤ p)
ServedFaultFails config past a p s reason.CarrierNotLost = HasLost past p → ⊥
ServedFaultFails config past a p s reason.MayNotFail = (a.status p ≡ status.Resident) × (may_fail s ≡ false)
ServedFaultFails config past a p s reason.NotOfVersion = IsServiceOf config.version s → ⊥
ServedFaultFails config past a p s other = ⊥

-- SERVED
abbrev pub ServedFails : Config → List Entry → Pager → ℕ → Service → Answer → Reason → Type 0
ServedFails config past a p s answer.DiskFault r = ServedFaultFails config past a p s r
ServedFails config past a p s other r = OwnFails config a p r ⊎ (VersionFails config s r ⊎ ServiceFails config past a p s other r)
