use Rattle.vm_types.specs.PagePlaces.{item_at}
use Rattle.shadow_tables.specs.Laying.{IsLaid}
use Rattle.shadow_tables.proofs.laying.lay.Given as goal

-- the pages before k are laid
abbrev pub invariant-loop-k : goal.invariant-loop-k
invariant-loop-k l = IsLaid (record l.mapping { pages = l.k }) (item_at l.initial.pages) (item_at l.pages)
