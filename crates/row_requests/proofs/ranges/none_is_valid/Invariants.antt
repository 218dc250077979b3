use Rattle.std.proofs.Common.{◌≡◌, ◌+◌, ◌/◌, ◌<◌, ◌≤◌, ℕ}
use Rattle.vm_types.specs.declared.limits.TheConstants.{PAGE_BYTES}
use Rattle.pager_model.specs.Lookups.{entries_at}
use Rattle.shadow_pager.specs.Shown.{shown}
use Rattle.row_requests.proofs.ranges.none_is_valid.Given as goal

-- none of those so far is valid
abbrev pub invariant-loop-n : goal.invariant-loop-n
invariant-loop-n l = (v : ℕ) → l.range.at.0 / PAGE_BYTES ≤ v → v < l.range.at.0 / PAGE_BYTES + l.n → entries_at (shown l.pager).pager.valid l.range.process.0 v ≡ 0
