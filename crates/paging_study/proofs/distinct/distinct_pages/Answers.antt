use Rattle.std.proofs.Common.{◌≤◌, Bool, true, false, length, ap, arith, eqb}
use mir.Val.{bool_byte}
use Rattle.paging_study.specs.Places.{page_at}
use Rattle.paging_study.specs.Intervals.{begins}
use Rattle.paging_study.proofs.Distance.{count_places-le}
use Rattle.paging_study.proofs.distinct.distinct_pages.Goals as goal

at_most_one : (b : Bool) → bool_byte b ≤ 1
at_most_one true = omega arith
at_most_one false = omega arith

-- no more than the places so far
pub overflow_add-count : goal.overflow_add-count
overflow_add-count c =
    let few = count_places-le (λ n. eqb (begins (page_at c.args.pages.now.pages.items) n) 0) c.loop-first.first-index in
    let one : c.from-count.result ≤ 1 = rw c.from-count.ensures (at_most_one _) in
    omega (arith, few, one, c.loop-first.invariant, ap length c.deref-first-items.ensures.value, c.args.pages.now.len)
