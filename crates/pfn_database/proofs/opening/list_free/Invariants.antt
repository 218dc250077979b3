use Rattle.std.proofs.Common.{◌≡◌, [], length, replicate}
use Rattle.pfn_database.proofs.OpeningLists.{listed}
use Rattle.pfn_database.proofs.opening.list_free.Given as goal

abbrev pub invariant-loop-frame : goal.invariant-loop-frame
invariant-loop-frame l = record {
  frames : l.lists.frames ≡ length l.kept.items;
  free : l.lists.free ≡ listed l.kept.items l.frame;
  modified : l.lists.modified ≡ [];
  cells : l.lists.cells ≡ replicate (length l.kept.items) (0, 0);
}
