use Rattle.std.proofs.Common.{ℕ, ◌<◌, ◌≤◌, refl, subst, slice_set, length, arith}
use Rattle.std.proofs.lemmas.Option.{slice_get_read}
use Rattle.shadow_history.specs.Lefts.{IsRequestTaken, Left}
use Rattle.shadow_history.proofs.Lefts.{left_end, left_past, none_taken, places_after, taken_after}
use Rattle.shadow_history.proofs.orders.Orders.take.Goals as goal

pub invariant_of-self : goal.invariant_of-self
invariant_of-self c =
    let next = c.self.inside.next.items in
    let after = c.self.inside.after.items in
    let p_below : c.args.p.0 < length c.self.inside.next.items = omega arith in
    let is = slice_get_read next _ c.args.p.0 c.index-place.result.now refl p_below c.index-place.ensures in
    let within : c.index-place.result.now < length c.self.inside.after.items = omega (arith, c.self.invariant.count) in
    let leads = slice_get_read after _ c.index-place.result.now c.index.result.now refl within c.index.ensures in
    places_after c.args.p.0 c.index-place.result.now c.index.result.now c.self.inside.body.now next after c.self.invariant is (subst (λ (n : ℕ). c.index-place.result.now < n) c.len-then-p-len.ensures c.if-place-len.true) leads

pub returns-then-place-len : goal.returns-then-place-len
returns-then-place-len c =
    let next = c.self.inside.next.items in
    let after = c.self.inside.after.items in
    let p_below : c.args.p.0 < length c.self.inside.next.items = omega arith in
    let is = slice_get_read next _ c.args.p.0 c.index-place.result.now refl p_below c.index-place.ensures in
    let within : c.index-place.result.now < length c.self.inside.after.items = omega (arith, c.self.invariant.count) in
    let leads = slice_get_read after _ c.index-place.result.now c.index.result.now refl within c.index.ensures in
    subst (λ (v : Left). IsRequestTaken c.args.p.0 v (record { body = c.self.inside.body.now; next = slice_set c.self.inside.next.items c.args.p.0 c.index.result.now })) c.self.view_is
    (taken_after c.args.p.0 c.index-place.result.now c.index.result.now c.self.inside.body.now next after c.self.invariant is (subst (λ (n : ℕ). c.index-place.result.now < n) c.len-then-p-len.ensures c.if-place-len.true) leads)

pub returns-else-place-len : goal.returns-else-place-len
returns-else-place-len c =
    let next = c.self.inside.next.items in
    let p_below : c.args.p.0 < length c.self.inside.next.items = omega arith in
    let is = slice_get_read next _ c.args.p.0 c.index-place.result.now refl p_below c.index-place.ensures in
    let l : Left = record { body = c.self.inside.body.now; next = next } in
    subst (λ (v : Left). IsRequestTaken c.args.p.0 v v) c.self.view_is (none_taken c.args.p.0 l (left_end c.args.p.0 c.index-place.result.now l is (subst (λ (n : ℕ). n ≤ c.index-place.result.now) c.len-then-p-len.ensures c.if-place-len.false)))

pub returns-else-p-len : goal.returns-else-p-len
returns-else-p-len c =
    let above : length c.self.inside.next.items ≤ c.args.p.0 = omega arith in
    let l : Left = record { body = c.self.inside.body.now; next = c.self.inside.next.items } in
    subst (λ (v : Left). IsRequestTaken c.args.p.0 v v) c.self.view_is (none_taken c.args.p.0 l (left_past c.args.p.0 l above))
