-- The words of the conditions on a service, by its kind. This project's own.
use Rattle.std.specs.Prelude.{ℕ, Bool, true, false, ◌+◌, ◌&&◌, List, Option, Some, None, count_by, slice_get, nat_le, not}
use Rattle.std.specs.Option.{option_map}
use Rattle.vm_types.specs.Ring.{Ring, fixed}
use Rattle.vm_types.specs.declared.config.Config.{Config}
use Rattle.vm_types.specs.declared.config.ProcSpec.{ProcSpec}
use Rattle.vm_types.specs.declared.reply.Answer.{Answer}
use Rattle.vm_types.specs.declared.reply.Answer.TheVariants as answer
use Rattle.vm_types.specs.declared.service.Service.{Service}
use Rattle.vm_types.specs.declared.service.Service.TheVariants as service
use Rattle.vm_journal.specs.declared.entry.Entry.{Entry}
use Rattle.vm_journal.specs.declared.entry.EvictWhy.{EvictWhy}
use Rattle.vm_journal.specs.declared.entry.EvictWhy.TheVariants as evict
use Rattle.vm_journal.specs.declared.entry.What.{What}
use Rattle.pager_model.specs.Lookups.{entry_of, passes}
use Rattle.pager_model.specs.MappedRanges.{is_in_use, is_unmapped}
use Rattle.pager_model.specs.Pager.{Pager, Valid}
use Rattle.pager_model.specs.Ring.{range_locked, range_pinned}
use Rattle.pager_model.specs.Served.{is_locked_in, is_pinned_in, is_slot_in}
use Rattle.pager_policy.specs.Given.{eviction, is_stopped}
use Rattle.pager_policy.specs.Serve.{is_range_in_flight, loose_in, valid_in}
use Rattle.policy_tables.specs.Rows.{if_there, that_is, when}

-- a new range must have no page, another one must have all of its pages; two services ask for neither
abbrev pub range_refusal : Pager → ℕ → Service → Option Answer
range_refusal a p (service.Create at pages prot) = when (is_in_use a p at.0 pages) answer.InUse
range_refusal a p (service.Delete at pages) = when (is_unmapped a p at.0 pages) answer.Unmapped
range_refusal a p (service.Protect at pages prot) = when (is_unmapped a p at.0 pages) answer.Unmapped
range_refusal a p (service.Lock at pages) = when (is_unmapped a p at.0 pages) answer.Unmapped
range_refusal a p (service.Unlock at pages) = when (is_unmapped a p at.0 pages) answer.Unmapped
range_refusal a p (service.Pin at pages) = when (is_unmapped a p at.0 pages) answer.Unmapped
range_refusal a p (service.Unpin at pages) = when (is_unmapped a p at.0 pages) answer.Unmapped
range_refusal a p (service.Purge at pages) = None
range_refusal a p (service.Adjust n) = None

-- a page that has to leave the working set before the service is done
pub record InWay : Type 0 where
  pub vpn : ℕ
  pub why : EvictWhy

abbrev pub page_in_way : Pager → ℕ → Service → Option InWay
page_in_way a p (service.Delete at pages) = option_map (λ (v : ℕ). record { vpn = v; why = evict.Delete }) (valid_in a p at.0 pages)
page_in_way a p (service.Purge at pages) = option_map (λ (v : ℕ). record { vpn = v; why = evict.Purge }) (loose_in a p at.0 pages)
page_in_way a p other = None

-- its eviction, if that isn't stopped: only one that would add to a modified list of WAITLIMIT frames or more is
abbrev pub eviction_of : Config → List Entry → Pager → ℕ → Option InWay → Option What
eviction_of config past a p None = None
eviction_of config past a p (Some g) =
    if_there (that_is (λ (e : Valid). not (is_stopped config past a e.frame)) (entry_of a.valid p g.vpn)) (λ (e : Valid). eviction past a p g.vpn e.frame g.why)

abbrev pub is_deleted_in_flight : Config → List Entry → Pager → ℕ → Service → Bool
is_deleted_in_flight config past a p (service.Delete at pages) = is_range_in_flight config past a p at.0 pages
is_deleted_in_flight config past a p other = false

-- whether no more pages of this ring are locked or pinned, each counted once, than the process's `locks`
abbrev pub has_locks : Config → ℕ → Ring → Bool
has_locks config p ring = passes (λ (spec : ProcSpec). nat_le (fixed ring.slots) spec.locks) (slice_get config.procs p)

-- whether the process's working set may have this limit: `locks` + 2 up to the extent
abbrev pub may_be_limit : Config → ℕ → ℕ → Bool
may_be_limit config p n = passes (λ (spec : ProcSpec). nat_le (spec.locks + 2) n && nat_le n spec.extent) (slice_get config.procs p)

abbrev pub bounds_refusal : Config → Pager → ℕ → Service → Option Answer
bounds_refusal config a p (service.Lock at pages) = when (not (has_locks config p (range_locked true at.0 pages (a.ring p)))) answer.LockLimit
bounds_refusal config a p (service.Pin at pages) = when (not (has_locks config p (range_pinned true at.0 pages (a.ring p)))) answer.LockLimit
bounds_refusal config a p (service.Adjust n) = when (not (may_be_limit config p n)) answer.BadLimit
bounds_refusal config a p other = None

-- what is answered once it is done: of four services how many pages of the range are in the working set, or were
-- locked, or pinned
abbrev pub done_answer : Pager → ℕ → Service → Answer
done_answer a p (service.Lock at pages) = answer.Count (count_by (is_slot_in at.0 pages) (a.ring p).slots)
done_answer a p (service.Pin at pages) = answer.Count (count_by (is_slot_in at.0 pages) (a.ring p).slots)
done_answer a p (service.Unlock at pages) = answer.Count (count_by (is_locked_in at.0 pages) (a.ring p).slots)
done_answer a p (service.Unpin at pages) = answer.Count (count_by (is_pinned_in at.0 pages) (a.ring p).slots)
done_answer a p other = answer.Good
