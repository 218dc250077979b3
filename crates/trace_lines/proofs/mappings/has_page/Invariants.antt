use Rattle.std.proofs.Common.{◌≡◌, ℕ, ◌+◌, ◌<◌, false}
use Rattle.std.specs.Ordering.{nat_cmp}
use Rattle.std.specs.BTreeSet.{contains}
use Rattle.trace_lines.specs.Keys.{page_key}
use Rattle.trace_lines.proofs.mappings.has_page.Given as goal

abbrev pub invariant-loop-k : goal.invariant-loop-k
invariant-loop-k l = (j : ℕ) → j < l.k → contains nat_cmp l.seen.pages (page_key l.proc (l.first + j)) ≡ false
