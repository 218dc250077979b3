use Rattle.std.proofs.lemmas.List.Filters.{FiltersInPlace}
use Rattle.flat_model.specs.FlatMachine.{is_kept}
use Rattle.flat_model.proofs.flat.forget.Given as goal

-- the entries before i that are kept stand in front
abbrev pub invariant-loop-i : goal.invariant-loop-i
invariant-loop-i l = FiltersInPlace (is_kept l.p.0 l.at.0 l.pages) l.initial.stored.items l.stored.items l.kept l.i
