use Rattle.std.proofs.Common.{◌<◌, ℕ, length, get_or}
use Rattle.paging_study.proofs.EndsByPlace.{BeginsState}
use Rattle.paging_study.proofs.intervals.begins_of.Given as goal

-- each page's last place, and where the intervals begin, so far
abbrev pub invariant-loop-i : goal.invariant-loop-i
invariant-loop-i l = record {
  state : BeginsState l.last l.pages l.firsts.items l.i;
  within : (t : ℕ) → t < length l.pages → get_or l.pages t 0 < length l.last;
}
