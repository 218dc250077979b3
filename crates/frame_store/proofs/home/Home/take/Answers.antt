use Rattle.std.proofs.Common.{◌≡◌, ◌-◌, suc, None, length, slice_set, Some, refl, sym, ap, ◌∙◌, subst, arith}
use Rattle.std.specs.Prelude.{IsSome}
use Rattle.frame_store.specs.Blocks.{held_at, number_in}
use Rattle.frame_store.specs.Home.{HomeView}
use Rattle.frame_store.proofs.Taking.{homes_equal, take_below, take_block, take_kept, take_moved, take_some, take_view, take_within}
use Rattle.frame_store.proofs.home.Home.take.Goals as goal

pub index-requires : goal.index-requires
index-requires g c =
    let some = subst (λ (h : HomeView g.row.B.Denot). IsSome (held_at h.blocks (number_in h.ids c.args.id))) (sym c.self.view_is) c.requires in
    let below = take_below c.self.invariant c.args.id c.number-number.result c.number-number.ensures some in
    omega (arith, below, c.self.inside.places.ok.0)

pub unwrap-place-requires : goal.unwrap-place-requires
unwrap-place-requires g c =
    let some = subst (λ (h : HomeView g.row.B.Denot). IsSome (held_at h.blocks (number_in h.ids c.args.id))) (sym c.self.view_is) c.requires in
    take_some c.self.invariant c.args.id c.number-number.result c.number-number.ensures some c.index.result.now c.index.ensures

pub overflow_sub-len : goal.overflow_sub-len
overflow_sub-len g c =
    let some = subst (λ (h : HomeView g.row.B.Denot). IsSome (held_at h.blocks (number_in h.ids c.args.id))) (sym c.self.view_is) c.requires in
    let within = take_within c.self.invariant c.args.id c.number-number.result c.number-number.ensures some c.index.result.now c.unwrap-place.result c.index.ensures c.unwrap-place.ensures in
    omega (arith, within, c.len.ensures, c.self.inside.blocks.ok.0)

pub index-requires-2 : goal.index-requires-2
index-requires-2 g c =
    let some = subst (λ (h : HomeView g.row.B.Denot). IsSome (held_at h.blocks (number_in h.ids c.args.id))) (sym c.self.view_is) c.requires in
    let within = take_within c.self.invariant c.args.id c.number-number.result c.number-number.ensures some c.index.result.now c.unwrap-place.result c.index.ensures c.unwrap-place.ensures in
    omega (arith, within, c.len.ensures, c.self.inside.blocks.ok.0)

pub index_mut-requires : goal.index_mut-requires
index_mut-requires g c =
    let some = subst (λ (h : HomeView g.row.B.Denot). IsSome (held_at h.blocks (number_in h.ids c.args.id))) (sym c.self.view_is) c.requires in
    let within = take_within c.self.invariant c.args.id c.number-number.result c.number-number.ensures some c.index.result.now c.unwrap-place.result c.index.ensures c.unwrap-place.ensures in
    let long : length c.self.inside.blocks.items ≡ suc (c.len.result - 1) = omega (arith, within, c.len.ensures, c.self.inside.blocks.ok.0) in
    let moved = take_moved c.self.invariant c.args.id c.number-number.result c.number-number.ensures some c.index.result.now c.unwrap-place.result c.index.ensures c.unwrap-place.ensures
    (c.len.result - 1) c.index-2.result.now long c.index-2.ensures c.number-moved.result c.number-moved.ensures in
    omega (arith, moved, c.self.inside.places.ok.0)

pub index_mut-requires-2 : goal.index_mut-requires-2
index_mut-requires-2 g c =
    let some = subst (λ (h : HomeView g.row.B.Denot). IsSome (held_at h.blocks (number_in h.ids c.args.id))) (sym c.self.view_is) c.requires in
    let below = take_below c.self.invariant c.args.id c.number-number.result c.number-number.ensures some in
    omega (arith, below, c.self.inside.places.ok.0)

pub swap_remove-requires : goal.swap_remove-requires
swap_remove-requires g c =
    let some = subst (λ (h : HomeView g.row.B.Denot). IsSome (held_at h.blocks (number_in h.ids c.args.id))) (sym c.self.view_is) c.requires in
    let within = take_within c.self.invariant c.args.id c.number-number.result c.number-number.ensures some c.index.result.now c.unwrap-place.result c.index.ensures c.unwrap-place.ensures in
    omega (arith, within, c.self.inside.blocks.ok.0)

pub invariant_of-self : goal.invariant_of-self
invariant_of-self g c =
    let some = subst (λ (h : HomeView g.row.B.Denot). IsSome (held_at h.blocks (number_in h.ids c.args.id))) (sym c.self.view_is) c.requires in
    let within = take_within c.self.invariant c.args.id c.number-number.result c.number-number.ensures some c.index.result.now c.unwrap-place.result c.index.ensures c.unwrap-place.ensures in
    let long : length c.self.inside.blocks.items ≡ suc (c.len.result - 1) = omega (arith, within, c.len.ensures, c.self.inside.blocks.ok.0) in
    take_kept c.self.invariant c.args.id c.number-number.result c.number-number.ensures some c.index.result.now c.unwrap-place.result c.index.ensures c.unwrap-place.ensures
    (c.len.result - 1) c.index-2.result.now long c.index-2.ensures c.number-moved.result c.swap_remove.result c.swap_remove.new.self.items c.number-moved.ensures c.swap_remove.ensures.items
    _ c.swap_remove.ensures.capacity

pub returns-clause-new : goal.returns-clause-new
returns-clause-new g c =
    let some = subst (λ (h : HomeView g.row.B.Denot). IsSome (held_at h.blocks (number_in h.ids c.args.id))) (sym c.self.view_is) c.requires in
    let within = take_within c.self.invariant c.args.id c.number-number.result c.number-number.ensures some c.index.result.now c.unwrap-place.result c.index.ensures c.unwrap-place.ensures in
    let long : length c.self.inside.blocks.items ≡ suc (c.len.result - 1) = omega (arith, within, c.len.ensures, c.self.inside.blocks.ok.0) in
    homes_equal _ _ refl
    (take_view c.self.invariant c.args.id c.number-number.result c.number-number.ensures some c.index.result.now c.unwrap-place.result c.index.ensures c.unwrap-place.ensures
    (c.len.result - 1) c.index-2.result.now long c.index-2.ensures c.number-moved.result c.swap_remove.result c.swap_remove.new.self.items c.number-moved.ensures c.swap_remove.ensures.items)
    ∙ ap (λ (h : HomeView g.row.B.Denot). record h { blocks = slice_set h.blocks (number_in h.ids c.args.id) None }) c.self.view_is

pub returns-clause-block : goal.returns-clause-block
returns-clause-block g c =
    let some = subst (λ (h : HomeView g.row.B.Denot). IsSome (held_at h.blocks (number_in h.ids c.args.id))) (sym c.self.view_is) c.requires in
    subst (λ (h : HomeView g.row.B.Denot). held_at h.blocks (number_in h.ids c.args.id) ≡ Some c.swap_remove.result.1) c.self.view_is
    (take_block c.self.invariant c.args.id c.number-number.result c.number-number.ensures some c.index.result.now c.unwrap-place.result c.index.ensures c.unwrap-place.ensures
    c.swap_remove.result c.swap_remove.ensures.value)
