use Rattle.std.proofs.Common.{◌≡◌, arith, length, subst, sym}
use Rattle.shadow_history.specs.Lefts.{AreOf}
use Rattle.shadow_history.proofs.Lefts.{linked_all, linked_places}
use Rattle.shadow_history.proofs.orders.Orders.new.Goals as goal

pub invariant_of-result : goal.invariant_of-result
invariant_of-result c = linked_places _ _ _ c.link.ensures.linked

pub returns : goal.returns
returns c =
    let count : length c.link.new.next.items ≡ c.args.procs = omega (arith, c.in_ok-next.ensures.len) in
    linked_all c.args.body.now c.link.new.next.items c.link.new.after.items
    (subst (AreOf c.args.body.now) (sym count) c.requires) c.link.ensures.linked
