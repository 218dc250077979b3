-- One service's next step: which entries are made and what is answered. Source: Kenah and Bate, "VAX/VMS
-- Internals and Data Structures", memory management system services; the order is this project's own.
use Rattle.std.specs.Prelude.{ℕ, Bool, true, ◌+◌, ◌&&◌, List, [], ◌∷◌, Option, Some, None, find, count_by, slice_get, nat_le, nat_lt, not, if◌then◌else◌}
use Rattle.std.specs.List.{list_any}
use Rattle.vm_types.specs.Ring.{Ring, fixed, is_fixed}
use Rattle.vm_types.specs.declared.names.Addr.{Addr}
use Rattle.vm_types.specs.declared.names.Page.{Page}
use Rattle.vm_types.specs.declared.config.Config.{Config}
use Rattle.vm_types.specs.declared.config.ProcSpec.{ProcSpec}
use Rattle.vm_types.specs.declared.reply.Answer.{Answer}
use Rattle.vm_types.specs.declared.reply.Answer.TheVariants as answer
use Rattle.vm_types.specs.declared.service.Service.{Service}
use Rattle.vm_types.specs.declared.service.Service.TheVariants as service
use Rattle.vm_journal.specs.declared.entry.Entry.{Entry}
use Rattle.vm_journal.specs.declared.entry.EvictWhy.{EvictWhy}
use Rattle.vm_journal.specs.declared.entry.EvictWhy.TheVariants as evict
use Rattle.vm_journal.specs.declared.entry.What.TheVariants as what
use Rattle.pager_model.specs.Flights.{open_flights}
use Rattle.pager_model.specs.Forget.{holder, own_pages, range_of}
use Rattle.pager_policy.specs.Given.{Given, eviction, given, is_stopped}
use Rattle.pager_model.specs.Lookups.{passes, entries_at, entry_of, slot_of, slot_with}
use Rattle.vm_types.specs.Status.{is_resident}
use Rattle.pager_model.specs.Pager.{Pager, Valid}
use Rattle.pager_model.specs.Ring.{range_locked, range_pinned}
use Rattle.pager_model.specs.Served.{is_locked_in, is_pinned_in, is_slot_in}
use Rattle.pager_model.specs.Transfers.{is_in_flight}
use Rattle.pager_model.specs.MappedRanges.{is_in_use, is_unmapped}

pub data ServeWhy : Type 0 where
  serve_not_resident : ServeWhy
  serve_in_flight : ServeWhy
  serve_modified_full : ServeWhy

pub data ServeIs : Type 0 where
  serve_answered : ServeIs
  serve_more : ServeIs
  serve_again : ServeWhy → ServeIs

abbrev pub GivenServe : Type 0
GivenServe = Given ServeIs

abbrev pub served_with : Service → Answer → GivenServe
served_with s w = given (what.Served s w ∷ []) serve_answered

-- the lowest page of the range that is valid, and that one which is neither locked nor pinned
abbrev pub is_valid_at : Pager → ℕ → ℕ → Bool
is_valid_at a p v = nat_lt 0 (entries_at a.valid p v)

abbrev pub is_fixed_at : Pager → ℕ → ℕ → Bool
is_fixed_at a p v = passes is_fixed (slot_of (slice_get (a.ring p).slots (slot_with (a.ring p) v)))

abbrev pub valid_in : Pager → ℕ → ℕ → ℕ → Option ℕ
valid_in a p address pages = find (is_valid_at a p) (range_of address pages)

abbrev pub loose_in : Pager → ℕ → ℕ → ℕ → Option ℕ
loose_in a p address pages = find (λ (v : ℕ). is_valid_at a p v && not (is_fixed_at a p v)) (range_of address pages)

-- such a page is evicted, unless the modified list is full
abbrev pub evict_given : Config → List Entry → Pager → ℕ → ℕ → EvictWhy → Option Valid → GivenServe
evict_given config past a p v why None = given [] (serve_again serve_modified_full)
evict_given config past a p v why (Some e) =
    if is_stopped config past a e.frame then given [] (serve_again serve_modified_full) else given (eviction past a p v e.frame why ∷ []) serve_more

-- whether some private page of the range is in a frame with an open flight
abbrev pub is_page_in_flight : Config → List Entry → Pager → Page → Bool
is_page_in_flight config past a g = passes (λ (f : ℕ). is_in_flight f (open_flights past)) (holder config a.page g)

abbrev pub is_range_in_flight : Config → List Entry → Pager → ℕ → ℕ → ℕ → Bool
is_range_in_flight config past a p address pages = list_any (is_page_in_flight config past a) (own_pages config a.map p (range_of address pages))

abbrev pub delete_given : Config → List Entry → Pager → ℕ → Addr → ℕ → Option ℕ → GivenServe
delete_given config past a p at pages (Some v) = evict_given config past a p v evict.Delete (entry_of a.valid p v)
delete_given config past a p at pages None =
    if is_range_in_flight config past a p at.0 pages then given [] (serve_again serve_in_flight) else served_with (service.Delete at pages) answer.Good

abbrev pub purge_given : Config → List Entry → Pager → ℕ → Addr → ℕ → Option ℕ → GivenServe
purge_given config past a p at pages (Some v) = evict_given config past a p v evict.Purge (entry_of a.valid p v)
purge_given config past a p at pages None = served_with (service.Purge at pages) answer.Good

-- the pages of the range that would be locked, or pinned, with those that are: this would be the ring
abbrev pub lock_given : Pager → ℕ → Service → ℕ → ℕ → Ring → Option ProcSpec → GivenServe
lock_given a p s address pages ring None = served_with s answer.LockLimit
lock_given a p s address pages ring (Some spec) =
    if nat_le (fixed ring.slots) spec.locks
    then served_with s (answer.Count (count_by (is_slot_in address pages) (a.ring p).slots)) else served_with s answer.LockLimit

abbrev pub limits_given : ℕ → Option ProcSpec → GivenServe
limits_given n None = served_with (service.Adjust n) answer.BadLimit
limits_given n (Some spec) =
    if nat_le (spec.locks + 2) n && nat_le n spec.extent then served_with (service.Adjust n) answer.Good else served_with (service.Adjust n) answer.BadLimit

-- a resident process's service: its refusals, then its own steps
abbrev pub service_gives : Config → List Entry → Pager → ℕ → Service → GivenServe
service_gives config past a p (service.Create at pages prot) =
    served_with (service.Create at pages prot) (if is_in_use a p at.0 pages then answer.InUse else answer.Good)
service_gives config past a p (service.Delete at pages) =
    if is_unmapped a p at.0 pages then served_with (service.Delete at pages) answer.Unmapped
    else delete_given config past a p at pages (valid_in a p at.0 pages)
service_gives config past a p (service.Protect at pages prot) =
    served_with (service.Protect at pages prot) (if is_unmapped a p at.0 pages then answer.Unmapped else answer.Good)
service_gives config past a p (service.Lock at pages) =
    if is_unmapped a p at.0 pages then served_with (service.Lock at pages) answer.Unmapped
    else lock_given a p (service.Lock at pages) at.0 pages (range_locked true at.0 pages (a.ring p)) (slice_get config.procs p)
service_gives config past a p (service.Unlock at pages) =
    served_with (service.Unlock at pages) (if is_unmapped a p at.0 pages then answer.Unmapped else answer.Count (count_by (is_locked_in at.0 pages) (a.ring p).slots))
service_gives config past a p (service.Purge at pages) = purge_given config past a p at pages (loose_in a p at.0 pages)
service_gives config past a p (service.Pin at pages) =
    if is_unmapped a p at.0 pages then served_with (service.Pin at pages) answer.Unmapped
    else lock_given a p (service.Pin at pages) at.0 pages (range_pinned true at.0 pages (a.ring p)) (slice_get config.procs p)
service_gives config past a p (service.Unpin at pages) =
    served_with (service.Unpin at pages) (if is_unmapped a p at.0 pages then answer.Unmapped else answer.Count (count_by (is_pinned_in at.0 pages) (a.ring p).slots))
service_gives config past a p (service.Adjust n) = limits_given n (slice_get config.procs p)

-- what is made for a service of process p by its own seat
abbrev pub serve_gives : Config → List Entry → Pager → ℕ → Service → GivenServe
serve_gives config past a p s =
    if is_resident (a.status p) then service_gives config past a p s else given [] (serve_again serve_not_resident)
