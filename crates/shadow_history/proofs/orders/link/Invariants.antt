use Rattle.std.proofs.Common.{◌≡◌, ◌≤◌, length}
use Rattle.shadow_history.specs.Lefts.{AreLinked}
use Rattle.shadow_history.proofs.orders.link.Given as goal

-- the tasks so far are linked
abbrev pub invariant-loop-t : goal.invariant-loop-t
invariant-loop-t l = record {
  linked : AreLinked l.body l.t l.next.items l.after.items;
  count : length l.next.items ≡ length l.fn.next.items;
  within : l.t ≤ length l.body;
}

abbrev pub decreases-loop-t : goal.decreases-loop-t
decreases-loop-t l = l.t
