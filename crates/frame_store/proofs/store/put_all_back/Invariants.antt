use Rattle.std.proofs.Common.{◌≡◌, ◌+◌, Option, length}
use Rattle.std.specs.Prelude.{All, IfSome, IsSome}
use Rattle.page_pool.specs.Pool.{Buffer}
use Rattle.frame_store.proofs.store.put_all_back.Given as goal

abbrev pub invariant-loop : goal.invariant-loop
invariant-loop l = record {
  pool : All (λ (buf : Option Buffer). IfSome buf (λ b. b.pool ≡ l.fn.pool.name)) l.buffers.items;
  long : length l.buffers.items + l.counter ≡ length l.fn.buffers.items;
  left : All IsSome l.fn.buffers.items → All IsSome l.buffers.items × (l.pool.left ≡ l.fn.pool.left + l.counter);
  name : l.pool.name ≡ l.fn.pool.name;
}
