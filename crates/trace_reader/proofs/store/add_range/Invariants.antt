use Rattle.std.proofs.Common.{◌≡◌, ℕ, ◌+◌, ◌||◌, ◌&&◌, leb, ltb}
use Rattle.std.specs.Ordering.{nat_cmp}
use Rattle.std.specs.BTreeSet.{contains}
use Rattle.trace_reader.proofs.store.add_range.Given as goal

abbrev pub invariant-loop-k : goal.invariant-loop-k
invariant-loop-k l = (q : ℕ) → contains nat_cmp l.set q ≡ (contains nat_cmp l.fn.set q || (leb l.first q && ltb q (l.first + l.k)))
