use Rattle.std.proofs.Common.{◌≡◌, ◌≤◌, ℕ, drop, length}
use Rattle.std.specs.List.{find}
use Rattle.std.specs.Option.{option_map}
use Rattle.vm_types.specs.Behind.{covers}
use Rattle.vm_types.specs.PagePlaces.{item_at}
use Rattle.pager_model.specs.Maps.{mapped_by}
use Rattle.shadow_tables.proofs.laying.lay_all.Given as goal

-- the mappings from left on are laid
abbrev pub invariant-loop-left : goal.invariant-loop-left
invariant-loop-left l =
    (l.left ≤ length l.maps) × ((p v : ℕ) → item_at l.pages p v ≡ option_map (mapped_by v) (find (covers p v) (drop l.left l.maps)))

abbrev pub decreases-loop-left : goal.decreases-loop-left
decreases-loop-left l = l.left
