use Rattle.std.proofs.Common.{ℕ, ◌<◌, ◌≤◌, refl, subst, sym, ap, arith, length, slice_get}
use Rattle.std.proofs.lemmas.Option.{slice_get_read}
use Rattle.shadow_history.proofs.Lefts.{left_end, left_here, left_past}
use Rattle.shadow_history.proofs.orders.Orders.first.Goals as goal

pub returns-then-place-len : goal.returns-then-place-len
returns-then-place-len c =
    let next = c.self.inside.next.items in
    let p_below : c.args.p.0 < length c.self.inside.next.items = omega arith in
    let is = slice_get_read next _ c.args.p.0 c.index-place.result.now refl p_below c.index-place.ensures in
    rw (← c.self.view_is) (sym (ap (λ xs. slice_get xs 0) (left_here c.args.p.0 c.index-place.result.now c.self.inside.body.now next c.self.inside.after.items c.at.result c.self.invariant is c.at.ensures)))

pub returns-else-place-len : goal.returns-else-place-len
returns-else-place-len c =
    let next = c.self.inside.next.items in
    let p_below : c.args.p.0 < length c.self.inside.next.items = omega arith in
    let is = slice_get_read next _ c.args.p.0 c.index-place.result.now refl p_below c.index-place.ensures in
    rw (← c.self.view_is) (sym (ap (λ xs. slice_get xs 0) (left_end c.args.p.0 c.index-place.result.now (record { body = c.self.inside.body.now; next = next }) is (subst (λ (n : ℕ). n ≤ c.index-place.result.now) c.len-then-p-len.ensures c.if-place-len.false))))

pub returns-else-p-len : goal.returns-else-p-len
returns-else-p-len c =
    let above : length c.self.inside.next.items ≤ c.args.p.0 = omega arith in
    let next = c.self.inside.next.items in
    rw (← c.self.view_is) (sym (ap (λ xs. slice_get xs 0) (left_past c.args.p.0 (record { body = c.self.inside.body.now; next = next }) above)))
