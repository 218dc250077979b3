use Rattle.std.proofs.Common.{◌+◌, ◌≤◌, ap, arith, length, sym, subst}
use Rattle.std.specs.Prelude.{All, IsSome}
use Rattle.std.specs.Option.{option_map}
use Rattle.std.proofs.lemmas.List.{length-map}
use Rattle.vm_types.specs.declared.pool_name.PoolName.{PoolName}
use Rattle.page_pool.specs.Pool.{Buffer}
use Rattle.frame_store.specs.StoreView.{StoreView}
use Rattle.frame_store.proofs.AllBack.{all_of_pool, all_there}
use Rattle.frame_store.proofs.store.Store.into_blocks.Goals as goal

pub put_all_back-requires : goal.put_all_back-requires
put_all_back-requires g c = all_of_pool c.self.inside.pool.name c.self.inside.buffers.items c.self.invariant.buffers

pub close-requires : goal.close-requires
close-requires g c =
    let bufs = c.self.inside.buffers.items in
    let back = c.put_all_back.ensures.left (all_there bufs (subst (λ (s : StoreView g.row.B.Denot). All IsSome s.buffers) (sym c.self.view_is) c.requires.buffers)) in
    let name = ap (λ (n : PoolName). n.size) c.put_all_back.ensures.name in
    let wanted = subst (λ (s : StoreView g.row.B.Denot). s.pool.size ≤ s.left + length s.buffers) (sym c.self.view_is) c.requires.left in
    let long = length-map bufs (option_map (λ (b : Buffer). b.bytes)) in
    omega (arith, back, name, wanted, long)

pub into_blocks-requires : goal.into_blocks-requires
into_blocks-requires g c = subst (λ (s : StoreView g.row.B.Denot). All IsSome s.blocks) (sym c.self.view_is) c.requires.blocks
