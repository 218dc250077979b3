use Rattle.std.proofs.Common.{◌≡◌, Some, None, slice_get, slice_set, refl, sym, ap, ◌∙◌, subst, arith}
use Rattle.frame_store.specs.Blocks.{number_in}
use Rattle.frame_store.specs.Home.{HomeView}
use Rattle.frame_store.proofs.Taking.{homes_equal, put_below, put_kept, put_room, put_view}
use Rattle.frame_store.proofs.home.Home.put.Goals as goal

pub index_mut-requires : goal.index_mut-requires
index_mut-requires g c =
    let out = subst (λ (h : HomeView g.row.B.Denot). slice_get h.blocks (number_in h.ids c.args.id) ≡ Some None) (sym c.self.view_is) c.requires in
    let below = put_below c.self.invariant c.args.id c.number-number.result c.number-number.ensures out in
    omega (arith, below, c.self.inside.places.ok.0)

pub push_reserved-requires : goal.push_reserved-requires
push_reserved-requires g c =
    let out = subst (λ (h : HomeView g.row.B.Denot). slice_get h.blocks (number_in h.ids c.args.id) ≡ Some None) (sym c.self.view_is) c.requires in
    let room = put_room c.self.invariant c.args.id c.number-number.result c.number-number.ensures out in
    omega (arith, room, c.self.inside.blocks.ok.0)

pub invariant_of-self : goal.invariant_of-self
invariant_of-self g c =
    let out = subst (λ (h : HomeView g.row.B.Denot). slice_get h.blocks (number_in h.ids c.args.id) ≡ Some None) (sym c.self.view_is) c.requires in
    put_kept c.self.invariant c.args.id c.number-number.result c.number-number.ensures out c.args.block c.len.result c.push_reserved.new.self.items
    (omega (arith, c.len.ensures, c.self.inside.blocks.ok.0)) c.push_reserved.ensures.items _ c.push_reserved.ensures.capacity

pub returns : goal.returns
returns g c =
    let out = subst (λ (h : HomeView g.row.B.Denot). slice_get h.blocks (number_in h.ids c.args.id) ≡ Some None) (sym c.self.view_is) c.requires in
    homes_equal _ _ refl
    (put_view c.self.invariant c.args.id c.number-number.result c.number-number.ensures out c.args.block c.len.result c.push_reserved.new.self.items
    (omega (arith, c.len.ensures, c.self.inside.blocks.ok.0)) c.push_reserved.ensures.items)
    ∙ ap (λ (h : HomeView g.row.B.Denot). record h { blocks = slice_set h.blocks (number_in h.ids c.args.id) (Some c.args.block) }) c.self.view_is
