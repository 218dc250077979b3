use Rattle.std.proofs.Common.{◌≡◌, ◌<◌, ℕ, suc, false, length, get_or}
use Rattle.paging_study.specs.Places.{page_at}
use Rattle.paging_study.specs.Least.{is_dropped}
use Rattle.paging_study.proofs.kept.gone_of.Given as goal

-- the flags of the first places' drops
abbrev pub invariant-loop-end : goal.invariant-loop-end
invariant-loop-end l = record {
  len : length l.gone.items ≡ length l.drops;
  gone : (n : ℕ) → n < length l.drops → get_or l.gone.items n false ≡ is_dropped (page_at l.drops) l.end-index (suc n);
}
