use Rattle.paging_study.specs.Places.{flag_at}
use Rattle.paging_study.proofs.Flags.{ListedSoFar}
use Rattle.paging_study.proofs.cuts.places_of.Given as goal

-- the flags of the first places, as a list of places
abbrev pub invariant-loop-i : goal.invariant-loop-i
invariant-loop-i l = ListedSoFar (flag_at l.flags) l.places.items l.i
