use Rattle.std.proofs.Common.{◌≡◌, ◌+◌, ◌<◌, ◌^◌, Option, Some, slice_get, slice_set, true, refl, sym, ap, ◌∙◌, subst}
use Rattle.std.specs.Prelude.{IsSome, IfSome}
use Rattle.std.specs.Option.{option_map}
use Rattle.std.proofs.lemmas.List.{map-set}
use Rattle.std.proofs.lemmas.Option.{none-some, slice_get_read}
use Rattle.page_pool.specs.Pool.{Buffer}
use Rattle.frame_store.specs.Blocks.{held_at, number_in}
use Rattle.frame_store.specs.declared.lift.Carried.TheVariants.{Waiting}
use Rattle.frame_store.specs.Home.{HomeView}
use Rattle.frame_store.specs.StoreView.{StoreView, bytes_of, lifted_in}
use Rattle.frame_store.proofs.StoreKept.{buffer_below, buffer_set, flight_set, stores_equal}
use Rattle.frame_store.proofs.store.Store.lift_in.Goals as goal

pub take-block-requires : goal.take-block-requires
take-block-requires g c = subst (λ (s : StoreView g.row.B.Denot). IsSome (held_at s.blocks (number_in s.ids c.args.id))) (sym c.self.view_is) c.requires.block

pub invariant_of-self : goal.invariant_of-self
invariant_of-self g c =
    let bufs = c.self.inside.buffers.items in
    let some : IsSome (held_at (bytes_of bufs) c.args.f.0) = subst (λ (s : StoreView g.row.B.Denot). IsSome (held_at s.buffers c.args.f.0)) (sym c.self.view_is) c.requires.buffer in
    flight_set (buffer_set c.self.invariant c.args.f.0 c.take-buf.new.self (buffer_below bufs c.args.f.0 some) (λ b is. absurd (none-some b (sym c.take-buf.ensures.out ∙ is)))) c.args.f.0 (Some c.args.start)

pub returns-clause-held : goal.returns-clause-held
returns-clause-held g c = subst (λ (s : StoreView g.row.B.Denot). held_at s.blocks (number_in s.ids c.args.id) ≡ Some c.take-block.result) c.self.view_is c.take-block.ensures.block

pub invariant_of-result : goal.invariant_of-result
invariant_of-result g c =
    let few = subst (λ (s : StoreView g.row.B.Denot). IfSome (held_at s.blocks (number_in s.ids c.args.id)) (λ b. (g.B.Block.seen b).reads + (g.B.Block.seen b).writes < 2 ^ 48)) (sym c.self.view_is) c.requires.few_calls in
    subst (λ (o : Option g.row.B.Denot). IfSome o (λ b. (g.B.Block.seen b).reads + (g.B.Block.seen b).writes < 2 ^ 48)) c.take-block.ensures.block few

pub returns-clause-store : goal.returns-clause-store
returns-clause-store g c =
    let bytes = map-set (option_map (λ (b : Buffer). b.bytes)) c.self.inside.buffers.items c.args.f.0 c.take-buf.new.self ∙ ap (λ o. slice_set (bytes_of c.self.inside.buffers.items) c.args.f.0 (option_map (λ (b : Buffer). b.bytes) o)) c.take-buf.ensures.out in
    stores_equal _ _ refl refl refl bytes (ap (λ (h : HomeView g.row.B.Denot). h.ids) c.take-block.ensures.new) (ap (λ (h : HomeView g.row.B.Denot). h.blocks) c.take-block.ensures.new) refl
    ∙ ap (λ (s : StoreView g.row.B.Denot). lifted_in s c.args.f.0 c.args.id c.args.start) c.self.view_is

pub returns-clause-lift : goal.returns-clause-lift
returns-clause-lift g c =
    let bufs = c.self.inside.buffers.items in
    let some : IsSome (held_at (bytes_of bufs) c.args.f.0) = subst (λ (s : StoreView g.row.B.Denot). IsSome (held_at s.buffers c.args.f.0)) (sym c.self.view_is) c.requires.buffer in
    let there : slice_get bufs c.args.f.0 ≡ Some (Some c.take-buf.result) = slice_get_read bufs _ c.args.f.0 _ refl (buffer_below bufs c.args.f.0 some) c.index_mut.ensures.value ∙ ap Some c.take-buf.ensures.buffer in
    let of = c.self.invariant.buffers c.args.f.0 c.take-buf.result there ∙ ap (λ (s : StoreView g.row.B.Denot). s.pool) c.self.view_is in
    λ i. record {
      start = c.args.start;
      seat = c.args.seat;
      page = c.args.page;
      frame = c.args.f.0;
      block = c.args.id;
      is_read = true;
      buffer = c.take-buf.result.bytes;
      held = c.take-block.result;
      result = Waiting;
      pool = of i;
    }
