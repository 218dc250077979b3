use Rattle.std.proofs.Common.{◌≡◌, ◌<◌, ℕ, Some, length, slice_get}
use Rattle.frame_store.specs.Home.{IsNoted, blocks_in}
use Rattle.frame_store.specs.Numbers.{listed_by, number_by}
use Rattle.frame_store.proofs.home.sorted.Given as goal

abbrev pub invariant-loop-number : goal.invariant-loop-number
invariant-loop-number g l = record {
  laid : IsNoted l.blocks.items l.places.items (listed_by l.numbers.sections.items l.numbers.file l.numbers.swaps.items l.fn.places.len) (number_by l.numbers.sections.items l.numbers.file l.numbers.swaps.items);
  blocks : blocks_in l.blocks.items l.places.items ≡ blocks_in l.fn.blocks.items l.fn.places.items;
  long : length l.blocks.items ≡ length l.fn.blocks.items;
  many : length l.places.items ≡ length l.fn.blocks.items;
  sorted : (m : ℕ) → m < l.number → slice_get l.places.items m ≡ Some (Some m);
}
