use Rattle.std.proofs.Common.{◌≡◌, Some, slice_get, slice_set, refl, sym, ap, ◌∙◌, subst}
use Rattle.std.specs.Prelude.{IsSome}
use Rattle.std.specs.Option.{option_map}
use Rattle.std.proofs.lemmas.List.{map-set}
use Rattle.std.proofs.lemmas.Option.{same_Some, slice_get_read}
use Rattle.page_pool.specs.Pool.{Buffer}
use Rattle.frame_store.specs.Blocks.{held_at}
use Rattle.frame_store.specs.Place.{with_bytes}
use Rattle.frame_store.specs.StoreView.{StoreView, bytes_of}
use Rattle.frame_store.proofs.StoreKept.{buffer_below, buffer_set, buffer_there, stores_equal}
use Rattle.frame_store.proofs.store.Store.bytes_mut.Goals as goal

pub invariant_of-self-lent : goal.invariant_of-self-lent
invariant_of-self-lent g c w =
    let bufs = c.self.inside.buffers.items in
    let some : IsSome (held_at (bytes_of bufs) c.args.f.0) = subst (λ (s : StoreView g.row.B.Denot). IsSome (held_at s.buffers c.args.f.0)) (sym c.self.view_is) c.requires in
    let held = buffer_there bufs c.args.f.0 some in
    let there : slice_get bufs c.args.f.0 ≡ Some c.index_mut.result.now = slice_get_read bufs _ c.args.f.0 _ refl (buffer_below bufs c.args.f.0 some) c.index_mut.ensures.value in
    let is : c.index_mut.result.now ≡ Some held.0 = same_Some _ _ (sym there ∙ held.1) in
    buffer_set c.self.invariant c.args.f.0 _ (buffer_below bufs c.args.f.0 some)
    (λ b same. sym (ap (λ (x : Buffer). x.pool) (same_Some _ _ (sym (ap (λ o. with_bytes o w) is) ∙ same))) ∙ c.self.invariant.buffers c.args.f.0 held.0 held.1)

pub returns : goal.returns
returns g c =
    let bufs = c.self.inside.buffers.items in
    let some : IsSome (held_at (bytes_of bufs) c.args.f.0) = subst (λ (s : StoreView g.row.B.Denot). IsSome (held_at s.buffers c.args.f.0)) (sym c.self.view_is) c.requires in
    let held = buffer_there bufs c.args.f.0 some in
    let there : slice_get bufs c.args.f.0 ≡ Some c.index_mut.result.now = slice_get_read bufs _ c.args.f.0 _ refl (buffer_below bufs c.args.f.0 some) c.index_mut.ensures.value in
    let is : c.index_mut.result.now ≡ Some held.0 = same_Some _ _ (sym there ∙ held.1) in (
      (
        refl,
        λ w.
            stores_equal _ _ refl refl refl
            (map-set (option_map (λ (b : Buffer). b.bytes)) bufs c.args.f.0 _ ∙ ap (λ o. slice_set (bytes_of bufs) c.args.f.0 (option_map (λ (b : Buffer). b.bytes) (with_bytes o w))) is) refl refl refl
            ∙ ap (λ (s : StoreView g.row.B.Denot). record s { buffers = slice_set s.buffers c.args.f.0 (Some w) }) c.self.view_is,
      ),
      record {
        writes_back = tt;
        bytes = subst (λ (s : StoreView g.row.B.Denot). held_at s.buffers c.args.f.0 ≡ Some c.bytes_mut.result.now) c.self.view_is
            (held.2 ∙ (sym (ap (option_map (λ (b : Buffer). b.bytes)) is) ∙ c.bytes_mut.ensures.bytes));
        size = c.bytes_mut.ensures.size;
      },
    )
