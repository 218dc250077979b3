use Rattle.std.proofs.Common.{◌≡◌, eqb}
use Rattle.paging_study.specs.Places.{page_at, count_places}
use Rattle.paging_study.specs.Intervals.{begins}
use Rattle.paging_study.proofs.distinct.distinct_pages.Given as goal

-- the first references so far
abbrev pub invariant-loop-first : goal.invariant-loop-first
invariant-loop-first l = l.count ≡ count_places (λ n. eqb (begins (page_at l.pages.pages.items) n) 0) l.first-index
