use Rattle.std.proofs.Common.{◌≡◌, ◌<◌, ℕ, Some, slice_get}
use Rattle.vm_types.specs.declared.names.ProcStatus.TheVariants as status
use Rattle.shadow_pager.proofs.more_readers.none_comes.Given as goal

-- none of those so far is coming
abbrev pub invariant-loop-status : goal.invariant-loop-status
invariant-loop-status l = (q : ℕ) → q < l.status-index → slice_get l.statuses q ≡ Some status.Coming → ⊥
