use Rattle.std.proofs.Common.{◌≡◌, ℕ, length}
use Rattle.paging_study.specs.Places.{page_at}
use Rattle.paging_study.specs.Least.{AreBegins}
use Rattle.paging_study.proofs.EndsByPlace.{EndsSoFar}
use Rattle.paging_study.proofs.intervals.ends_of.Given as goal

-- the ends of the intervals so far, for any pages whose intervals begin so
abbrev pub invariant-loop-i : goal.invariant-loop-i
invariant-loop-i l = record {
  state : (page : ℕ → ℕ) → AreBegins page l.firsts → EndsSoFar page (length l.firsts) (page_at l.ends.items) l.i;
  len : length l.ends.items ≡ length l.firsts;
}
