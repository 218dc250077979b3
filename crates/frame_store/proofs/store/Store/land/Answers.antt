use Rattle.std.proofs.Common.{◌≡◌, ℕ, ◌<◌, List, length, Some, None, slice_get, refl, sym, ap, ◌∙◌, subst}
use Rattle.std.specs.Option.{option_map}
use Rattle.std.proofs.lemmas.List.{length-map}
use Rattle.vm_types.specs.declared.limits.TheConstants.{PAGE_BYTES}
use Rattle.page_pool.specs.Pool.{Buffer}
use Rattle.frame_store.specs.Blocks.{number_in}
use Rattle.frame_store.specs.Home.{HomeView}
use Rattle.frame_store.specs.LiftView.{LiftView}
use Rattle.frame_store.specs.StoreView.{StoreView, landed}
use Rattle.frame_store.proofs.StoreKept.{buffer_set, flight_set, pool_same, put_bytes, put_of, stores_equal}
use Rattle.frame_store.proofs.store.Store.land.Goals as goal

pub put-requires : goal.put-requires
put-requires g c =
    subst (λ (s : StoreView g.row.B.Denot). slice_get s.blocks (number_in s.ids c.lift.inside.id) ≡ Some None) (sym c.self.view_is)
    (subst (λ (l : LiftView g.row.B.Denot). slice_get c.args.self.now.blocks (number_in c.args.self.now.ids l.block) ≡ Some None) (sym c.lift.view_is) c.requires.block)

pub invariant_of-self : goal.invariant_of-self
invariant_of-self g c =
    let bufs = c.self.inside.buffers.items in
    let f = c.lift.inside.frame.0 in
    let below : f < length bufs =
    subst (λ n. f < n) (length-map bufs (option_map (λ (b : Buffer). b.bytes)))
    (subst (λ (s : StoreView g.row.B.Denot). f < length s.buffers) (sym c.self.view_is)
    (subst (λ (l : LiftView g.row.B.Denot). l.frame < length c.args.self.now.buffers) (sym c.lift.view_is) c.requires.frame)) in
    let pool : c.lift.inside.buf.pool ≡ c.self.inside.pool.name =
    subst (λ (s : StoreView g.row.B.Denot). c.lift.inside.buf.pool ≡ s.pool) (sym c.self.view_is)
    (subst (λ (l : LiftView g.row.B.Denot). l.pool ≡ c.args.self.now.pool) (sym c.lift.view_is) c.requires.pool) in
    pool_same (flight_set (buffer_set c.self.invariant f c.put_back.new.place below
    (put_of bufs c.self.invariant.buffers f c.index_mut-place.result.now c.put_back.new.place c.lift.inside.buf c.lift.inside.read below pool c.index_mut-place.ensures.value c.put_back.ensures.place))
    f None) c.put_back.ensures.name

pub returns-clause-store : goal.returns-clause-store
returns-clause-store g c =
    let bufs = c.self.inside.buffers.items in
    let f = c.lift.inside.frame.0 in
    stores_equal _ _ c.put_back.ensures.name c.put_back.ensures.left refl
    (put_bytes bufs f c.index_mut-place.result.now c.put_back.new.place c.lift.inside.buf c.lift.inside.read c.index_mut-place.ensures.value c.put_back.ensures.place)
    (ap (λ (h : HomeView g.row.B.Denot). h.ids) c.put.ensures) (ap (λ (h : HomeView g.row.B.Denot). h.blocks) c.put.ensures) refl
    ∙ (λ i. landed (c.self.view_is i) (c.lift.view_is i))

pub returns-clause-size : goal.returns-clause-size
returns-clause-size g c = subst (λ (l : LiftView g.row.B.Denot). length l.buffer ≡ PAGE_BYTES) c.lift.view_is (subst (λ (xs : List ℕ). length xs ≡ PAGE_BYTES) c.bytes.ensures.bytes c.bytes.ensures.size)
