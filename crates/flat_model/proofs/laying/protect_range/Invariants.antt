use Rattle.std.specs.Option.{option_map}
use Rattle.vm_types.specs.PagePlaces.{item_at}
use Rattle.flat_model.specs.Behind.{IsChangedIn, protected_by}
use Rattle.flat_model.proofs.laying.protect_range.Given as goal

-- the pages before k are changed
abbrev pub invariant-loop-k : goal.invariant-loop-k
invariant-loop-k l = IsChangedIn (option_map (protected_by l.prot)) l.p.0 l.fn.at.0 l.k (item_at l.initial.pages) (item_at l.pages)
