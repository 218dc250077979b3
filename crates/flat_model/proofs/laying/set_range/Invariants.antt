use Rattle.vm_types.specs.PagePlaces.{item_at}
use Rattle.flat_model.specs.Behind.{IsChangedIn}
use Rattle.flat_model.proofs.laying.set_range.Given as goal

-- the pages before k are changed
abbrev pub invariant-loop-k : goal.invariant-loop-k
invariant-loop-k l = IsChangedIn (λ old. l.to) l.p.0 l.fn.at.0 l.k (item_at l.initial.pages) (item_at l.pages)
