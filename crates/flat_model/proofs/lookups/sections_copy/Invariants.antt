use Rattle.std.proofs.Common.{◌≡◌, take}
use Rattle.flat_model.proofs.lookups.sections_copy.Given as goal

abbrev pub invariant-loop-section : goal.invariant-loop-section
invariant-loop-section l = l.copy ≡ take l.section-index l.sections
