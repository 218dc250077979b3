use Rattle.std.proofs.Common.{◌≡◌, ◌<◌, ◌-◌, ◌&&◌, ℕ, false, leb, not, length, get_or}
use Rattle.paging_study.proofs.kept.kept_of.Given as goal

-- the flags so far
abbrev pub invariant-loop-end : goal.invariant-loop-end
invariant-loop-end l = record {
  len : length l.kept.items ≡ l.end-index;
  kept : (i : ℕ) → i < l.end-index → get_or l.kept.items i false ≡ (leb 1 (get_or l.ends i 0) && not (get_or l.gone (get_or l.ends i 0 - 1) false));
}
