use Rattle.std.proofs.Common.{◌≡◌, ◌≤◌, length}
use Rattle.paging_study.specs.Places.{page_at, flag_at}
use Rattle.paging_study.proofs.Backward.{Backward}
use Rattle.paging_study.proofs.cuts.cut_flags.Given as goal

-- the cuts after the first `left` places
abbrev pub invariant-loop-left : goal.invariant-loop-left
invariant-loop-left l = record {
  len : length l.flags.items ≡ length l.drops;
  within : l.left ≤ length l.drops;
  state : Backward (page_at l.drops) (length l.drops) (flag_at l.flags.items) l.last l.left;
}

abbrev pub decreases-loop-left : goal.decreases-loop-left
decreases-loop-left l = l.left
