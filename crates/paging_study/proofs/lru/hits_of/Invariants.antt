use Rattle.std.proofs.Common.{◌≡◌, ◌<◌, ℕ, suc, false, length, get_or}
use Rattle.paging_study.specs.Places.{page_at, count_places}
use Rattle.paging_study.specs.Recency.{is_last, is_at_distance}
use Rattle.paging_study.proofs.lru.hits_of.Given as goal

-- the hits so far, by their distances, and the last places so far
abbrev pub invariant-loop-i : goal.invariant-loop-i
invariant-loop-i l = record {
  hits : (d : ℕ) → d < l.frames → get_or l.hits.items d 0 ≡ count_places (is_at_distance (page_at l.pages.pages.items) d) l.i;
  last : (n : ℕ) → n < length l.last.flags.items → get_or l.last.flags.items n false ≡ is_last (page_at l.pages.pages.items) l.i (suc n);
  hits_len : length l.hits.items ≡ l.frames;
  last_len : length l.pages.pages.items < length l.last.flags.items;
}
