-- The answer to a service: its refusals in their order, and then what it counts; and whether a page has an entry.
-- Source: Kenah and Bate, "VAX/VMS Internals and Data Structures", memory management system services; the order is
-- this project's own.
use Rattle.std.specs.Prelude.{ℕ, Bool, true, false, ◌+◌, ◌&&◌, Option, Some, None, count_by, nat_le, not, if◌then◌else◌}
use Rattle.std.specs.List.{list_any}
use Rattle.std.specs.Option.{is_some}
use Rattle.vm_types.specs.Ring.{Ring, fixed}
use Rattle.vm_types.specs.declared.config.ProcSpec.{ProcSpec}
use Rattle.vm_types.specs.declared.reply.Answer.{Answer}
use Rattle.vm_types.specs.declared.reply.Answer.TheVariants as answer
use Rattle.vm_types.specs.declared.service.Service.{Service}
use Rattle.vm_types.specs.declared.service.Service.TheVariants as service
use Rattle.page_tables.specs.PageTables.{PageTables, pte_in}
use Rattle.pager_model.specs.Forget.{range_of}
use Rattle.pager_model.specs.Ring.{range_locked, range_pinned}
use Rattle.pager_model.specs.Served.{is_locked_in, is_pinned_in, is_slot_in}

-- the valid pages of the range, if no more are locked or pinned than may be in the ring that there would be
abbrev pub lock_answer : Ring → Ring → ℕ → ℕ → Option ProcSpec → Answer
lock_answer ring would address pages None = answer.LockLimit
lock_answer ring would address pages (Some spec) =
    if nat_le (fixed would.slots) spec.locks then answer.Count (count_by (is_slot_in address pages) ring.slots) else answer.LockLimit

abbrev pub limit_answer : ℕ → Option ProcSpec → Answer
limit_answer n None = answer.BadLimit
limit_answer n (Some spec) = if nat_le (spec.locks + 2) n && nat_le n spec.extent then answer.Good else answer.BadLimit

-- whether the page number has an entry, or whether it has none
abbrev pub has_entry : PageTables → ℕ → Bool → ℕ → Bool
has_entry tables p true v = is_some (pte_in tables p v)
has_entry tables p false v = not (is_some (pte_in tables p v))

-- whether some page of a range has an entry, or whether some has none
abbrev pub some_entry : PageTables → ℕ → Bool → ℕ → ℕ → Bool
some_entry tables p mapped address pages = list_any (has_entry tables p mapped) (range_of address pages)

-- by which ranges are in use, which have a page that isn't mapped, the ring of the process, and what it may have
abbrev pub service_answer : (ℕ → ℕ → Bool) → (ℕ → ℕ → Bool) → Ring → Option ProcSpec → Service → Answer
service_answer used unmapped ring spec (service.Create at pages prot) = if used at.0 pages then answer.InUse else answer.Good
service_answer used unmapped ring spec (service.Delete at pages) = if unmapped at.0 pages then answer.Unmapped else answer.Good
service_answer used unmapped ring spec (service.Protect at pages prot) = if unmapped at.0 pages then answer.Unmapped else answer.Good
service_answer used unmapped ring spec (service.Lock at pages) = if unmapped at.0 pages then answer.Unmapped else lock_answer ring (range_locked true at.0 pages ring) at.0 pages spec
service_answer used unmapped ring spec (service.Unlock at pages) = if unmapped at.0 pages then answer.Unmapped else answer.Count (count_by (is_locked_in at.0 pages) ring.slots)
service_answer used unmapped ring spec (service.Purge at pages) = answer.Good
service_answer used unmapped ring spec (service.Pin at pages) = if unmapped at.0 pages then answer.Unmapped else lock_answer ring (range_pinned true at.0 pages ring) at.0 pages spec
service_answer used unmapped ring spec (service.Unpin at pages) = if unmapped at.0 pages then answer.Unmapped else answer.Count (count_by (is_pinned_in at.0 pages) ring.slots)
service_answer used unmapped ring spec (service.Adjust n) = limit_answer n spec
