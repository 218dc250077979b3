use Rattle.std.proofs.Common.{Some, replicate, slice_set, refl, sym, ap, ◌∙◌, subst}
use Rattle.std.specs.Prelude.{IsSome}
use Rattle.std.specs.Option.{option_map}
use Rattle.std.proofs.lemmas.List.{map-set}
use Rattle.std.proofs.lemmas.Option.{same_Some}
use Rattle.vm_types.specs.declared.limits.TheConstants.{PAGE_BYTES}
use Rattle.page_pool.specs.Pool.{Buffer}
use Rattle.frame_store.specs.Blocks.{held_at}
use Rattle.frame_store.specs.Place.{with_bytes}
use Rattle.frame_store.specs.StoreView.{StoreView, bytes_of}
use Rattle.frame_store.proofs.Places.{read_held, get_held}
use Rattle.frame_store.proofs.StoreKept.{buffer_below, buffer_set, buffer_there, stores_equal}
use Rattle.frame_store.proofs.store.Store.zero.Goals as goal

pub invariant_of-self : goal.invariant_of-self
invariant_of-self g c =
    let bufs = c.self.inside.buffers.items in
    let some : IsSome (held_at (bytes_of bufs) c.args.f.0) = subst (λ (s : StoreView g.row.B.Denot). IsSome (held_at s.buffers c.args.f.0)) (sym c.self.view_is) c.requires in
    let there = buffer_there bufs c.args.f.0 some in
    let was = read_held bufs c.args.f.0 c.index_mut.result.now (buffer_below bufs c.args.f.0 some) c.index_mut.ensures.value ∙ get_held bufs c.args.f.0 (Some there.0) there.1 in
    let zeroed = c.zero.ensures ∙ ap (λ o. with_bytes o (replicate PAGE_BYTES 0)) was in
    buffer_set c.self.invariant c.args.f.0 c.zero.new.self (buffer_below bufs c.args.f.0 some)
    (λ b is. sym (ap (λ (x : Buffer). x.pool) (same_Some _ _ (sym zeroed ∙ is))) ∙ c.self.invariant.buffers c.args.f.0 there.0 there.1)

pub returns : goal.returns
returns g c =
    let bufs = c.self.inside.buffers.items in
    let some : IsSome (held_at (bytes_of bufs) c.args.f.0) = subst (λ (s : StoreView g.row.B.Denot). IsSome (held_at s.buffers c.args.f.0)) (sym c.self.view_is) c.requires in
    let there = buffer_there bufs c.args.f.0 some in
    let was = read_held bufs c.args.f.0 c.index_mut.result.now (buffer_below bufs c.args.f.0 some) c.index_mut.ensures.value ∙ get_held bufs c.args.f.0 (Some there.0) there.1 in
    let zeroed = c.zero.ensures ∙ ap (λ o. with_bytes o (replicate PAGE_BYTES 0)) was in
    let bytes = map-set (option_map (λ (b : Buffer). b.bytes)) bufs c.args.f.0 c.zero.new.self ∙ ap (λ o. slice_set (bytes_of bufs) c.args.f.0 (option_map (λ (b : Buffer). b.bytes) o)) zeroed in
    stores_equal _ _ refl refl refl bytes refl refl refl
    ∙ ap (λ (s : StoreView g.row.B.Denot). record s { buffers = slice_set s.buffers c.args.f.0 (Some (replicate PAGE_BYTES 0)) }) c.self.view_is
