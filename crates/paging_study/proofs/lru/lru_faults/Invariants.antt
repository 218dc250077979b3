use Rattle.std.proofs.Common.{◌≡◌, ◌<◌, ℕ, suc, not, length, get_or}
use Rattle.paging_study.specs.Places.{page_at, count_places}
use Rattle.paging_study.specs.Recency.{is_hit}
use Rattle.paging_study.proofs.lru.lru_faults.Given as goal

-- the faults with as many frames as there were hits
abbrev pub invariant-loop-more : goal.invariant-loop-more
invariant-loop-more l = record {
  left : l.left ≡ count_places (λ n. not (is_hit (page_at l.pages.pages.items) l.more-index n)) (length l.pages.pages.items);
  faults : (j : ℕ) → j < l.more-index → get_or l.faults.items j 0 ≡ count_places (λ n. not (is_hit (page_at l.pages.pages.items) (suc j) n)) (length l.pages.pages.items);
  len : length l.faults.items ≡ l.more-index;
}
