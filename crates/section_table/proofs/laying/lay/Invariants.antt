use Rattle.std.proofs.Common.{◌≡◌, length}
use Rattle.vm_types.specs.PagePlaces.{item_at}
use Rattle.section_table.specs.Laying.{IsLaid}
use Rattle.section_table.proofs.laying.lay.Given as goal

-- the pages before k are laid
abbrev pub invariant-loop-k : goal.invariant-loop-k
invariant-loop-k l = record {
  laid : IsLaid (record l.mapping { pages = l.k }) (item_at l.initial.origins) (item_at l.origins);
  places : length l.origins ≡ length l.initial.origins;
}
