use Rattle.std.proofs.Common.{◌≡◌, ◌+◌, ◌-◌, ◌<◌, ◌^◌, Option, Some, refl, sym, ap, ◌∙◌, subst, arith}
use Rattle.std.specs.Prelude.{IsSome, IfSome}
use Rattle.std.specs.Option.{option_map}
use Rattle.page_pool.specs.Pool.{Buffer}
use Rattle.frame_store.specs.Blocks.{held_at, number_in}
use Rattle.frame_store.specs.Home.{HomeView}
use Rattle.frame_store.specs.StoreView.{StoreView, bytes_of, lifted_out}
use Rattle.frame_store.proofs.Places.{get_held, read_held}
use Rattle.frame_store.proofs.StoreKept.{buffer_below, buffer_there, flight_set, pool_same, stores_equal}
use Rattle.frame_store.proofs.store.Store.lift_out.Goals as goal

pub take-block-requires : goal.take-block-requires
take-block-requires g c = subst (λ (s : StoreView g.row.B.Denot). IsSome (held_at s.blocks (number_in s.ids c.args.id))) (sym c.self.view_is) c.requires.block

pub invariant_of-self : goal.invariant_of-self
invariant_of-self g c = pool_same (flight_set c.self.invariant c.args.f.0 (Some c.args.start)) c.copy-buf.ensures.name

pub returns-clause-held : goal.returns-clause-held
returns-clause-held g c = subst (λ (s : StoreView g.row.B.Denot). held_at s.blocks (number_in s.ids c.args.id) ≡ Some c.take-block.result) c.self.view_is c.take-block.ensures.block

pub invariant_of-result : goal.invariant_of-result
invariant_of-result g c =
    let few = subst (λ (s : StoreView g.row.B.Denot). IfSome (held_at s.blocks (number_in s.ids c.args.id)) (λ b. (g.B.Block.seen b).reads + (g.B.Block.seen b).writes < 2 ^ 48)) (sym c.self.view_is) c.requires.few_calls in
    subst (λ (o : Option g.row.B.Denot). IfSome o (λ b. (g.B.Block.seen b).reads + (g.B.Block.seen b).writes < 2 ^ 48)) c.take-block.ensures.block few

pub returns-clause-store : goal.returns-clause-store
returns-clause-store g c =
    let left : c.copy-buf.new.pool.left ≡ c.self.inside.pool.left - 1 = let fewer = c.copy-buf.ensures.left in omega (arith, fewer) in
    stores_equal _ _ c.copy-buf.ensures.name left refl refl (ap (λ (h : HomeView g.row.B.Denot). h.ids) c.take-block.ensures.new) (ap (λ (h : HomeView g.row.B.Denot). h.blocks) c.take-block.ensures.new) refl
    ∙ ap (λ (s : StoreView g.row.B.Denot). lifted_out s c.args.f.0 c.args.id c.args.start) c.self.view_is

pub returns-clause-buffer : goal.returns-clause-buffer
returns-clause-buffer g c =
    let bufs = c.self.inside.buffers.items in
    let some : IsSome (held_at (bytes_of bufs) c.args.f.0) = subst (λ (s : StoreView g.row.B.Denot). IsSome (held_at s.buffers c.args.f.0)) (sym c.self.view_is) c.requires.buffer in
    let there = buffer_there bufs c.args.f.0 some in
    let was = read_held bufs c.args.f.0 c.index.result.now (buffer_below bufs c.args.f.0 some) c.index.ensures ∙ get_held bufs c.args.f.0 (Some there.0) there.1 in
    subst (λ (s : StoreView g.row.B.Denot). held_at s.buffers c.args.f.0 ≡ Some c.copy-buf.result.bytes) c.self.view_is
    (there.2 ∙ (sym (ap (option_map (λ (b : Buffer). b.bytes)) was) ∙ c.copy-buf.ensures.bytes))
