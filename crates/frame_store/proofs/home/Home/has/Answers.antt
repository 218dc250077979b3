use Rattle.std.proofs.Common.{rules, ◌≡◌, false, Some, None, slice_index_or, subst}
use Rattle.std.specs.Prelude.{is_some}
use Rattle.frame_store.specs.Blocks.{held_at, number_in}
use Rattle.frame_store.specs.Home.{HomeView}
use Rattle.frame_store.proofs.Ordered.{has_is, none_is}
use Rattle.frame_store.proofs.home.Home.has.Goals as goal

pub returns-in-Some : goal.returns-in-Some
returns-in-Some g c =
    let kept = c.self.invariant in
    let home = c.self.inside.blocks.items in
    let at : slice_index_or c.self.inside.places.items c.number-number.result None ≡ Some c.in-Some.place = search rules in
    subst (λ (h : HomeView g.row.B.Denot). c.eq.result ≡ is_some (held_at h.blocks (number_in h.ids c.args.id))) c.self.view_is
    (has_is kept.laid kept.many kept.numbered c.args.id c.number-number.result c.in-Some.place c.index.result.now c.eq.result c.number-number.ensures at c.index.ensures (search rules) (search rules))

pub returns-in-None : goal.returns-in-None
returns-in-None g c =
    let kept = c.self.invariant in
    let out : slice_index_or c.self.inside.places.items c.number-number.result None ≡ None = search rules in
    subst (λ (h : HomeView g.row.B.Denot). false ≡ is_some (held_at h.blocks (number_in h.ids c.args.id))) c.self.view_is
    (none_is kept.laid kept.many kept.numbered c.args.id c.number-number.result c.number-number.ensures out)
