use Rattle.std.proofs.Common.{◌≡◌, length}
use Rattle.paging_study.specs.Places.{page_at, flag_at}
use Rattle.paging_study.specs.Dropped.{is_let_go, places_with}
use Rattle.paging_study.proofs.dropped.dropped_places.Given as goal

-- those of the first places
abbrev pub invariant-loop-i : goal.invariant-loop-i
invariant-loop-i l = l.places.items ≡ places_with (is_let_go (page_at l.pages.pages.items) (flag_at l.kept) (length l.pages.pages.items)) l.i
