use Rattle.std.proofs.Common.{◌≡◌, ◌+◌, ◌/◌, ◌<◌, ◌≤◌, ℕ, None}
use Rattle.vm_types.specs.declared.limits.TheConstants.{PAGE_BYTES}
use Rattle.pager_model.specs.Lookups.{page_by}
use Rattle.shadow_pager.specs.Shown.{shown}
use Rattle.row_requests.proofs.ranges.first_mapped.Given as goal

-- none of those so far is mapped
abbrev pub invariant-loop-n : goal.invariant-loop-n
invariant-loop-n l = (v : ℕ) → l.range.at.0 / PAGE_BYTES ≤ v → v < l.range.at.0 / PAGE_BYTES + l.n → page_by l.config (shown l.pager).pager.map l.range.process.0 v ≡ None
