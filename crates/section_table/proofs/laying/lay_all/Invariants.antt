use Rattle.std.proofs.Common.{◌≡◌, ◌≤◌, ℕ, drop, length}
use Rattle.std.specs.List.{find}
use Rattle.std.specs.Option.{option_map}
use Rattle.vm_types.specs.Behind.{covers, origin_by}
use Rattle.vm_types.specs.PagePlaces.{item_at}
use Rattle.section_table.proofs.laying.lay_all.Given as goal

-- the mappings from left on are laid
abbrev pub invariant-loop-left : goal.invariant-loop-left
invariant-loop-left l = record {
  left : l.left ≤ length l.maps;
  laid : (p v : ℕ) → item_at l.origins p v ≡ option_map (origin_by v) (find (covers p v) (drop l.left l.maps));
  places : length l.origins ≡ length l.initial.origins;
}

abbrev pub decreases-loop-left : goal.decreases-loop-left
decreases-loop-left l = l.left
