use Rattle.std.proofs.Common.{◌≡◌, ◌++◌, ◌∷◌, [], Option, ap, arith, length, subst, sym, ◌∙◌}
use Rattle.std.specs.Prelude.{IfSome, IsSome}
use Rattle.std.specs.Option.{option_to_list}
use Rattle.std.proofs.lemmas.List.{length-append}
use Rattle.std.proofs.lemmas.List.Elements.{All-pop}
use Rattle.vm_types.specs.declared.pool_name.PoolName.{PoolName}
use Rattle.page_pool.specs.Pool.{Buffer}
use Rattle.frame_store.proofs.store.put_all_back.Goals as goal

pub put_back-requires : goal.put_back-requires
put_back-requires c =
    let of_pool : Option Buffer → Type 0 = λ (buf : Option Buffer). IfSome buf (λ b. b.pool ≡ c.args.pool.now.name) in
    subst (λ (name : PoolName). IfSome c.unwrap.result (λ b. b.pool ≡ name)) (sym c.loop.invariant.name) (subst (λ (r : Option (Option Buffer)). IfSome r of_pool) c.unwrap.ensures (All-pop of_pool c.loop.buffers.items c.pop.new.self.items c.pop.result c.pop.ensures.items c.loop.invariant.pool).1)

pub loop-preserved : goal.loop-preserved
loop-preserved c =
    let of_pool : Option Buffer → Type 0 = λ (buf : Option Buffer). IfSome buf (λ b. b.pool ≡ c.args.pool.now.name) in
    let one = ap length (c.pop.ensures.items ∙ ap (λ (r : Option (Option Buffer)). c.pop.new.self.items ++ option_to_list r) c.unwrap.ensures) ∙ length-append c.pop.new.self.items (c.unwrap.result ∷ []) in
    let long = c.loop.invariant.long in
    record {
      pool = (All-pop of_pool c.loop.buffers.items c.pop.new.self.items c.pop.result c.pop.ensures.items c.loop.invariant.pool).0;
      long = omega (arith, one, long);
      left = λ all.
          let was = c.loop.invariant.left all in
          let popped = All-pop IsSome c.loop.buffers.items c.pop.new.self.items c.pop.result c.pop.ensures.items was.0 in
          let more = c.put_back.ensures.left (subst (λ (r : Option (Option Buffer)). IfSome r IsSome) c.unwrap.ensures popped.1) in
          let before = was.1 in
          (popped.0, omega (arith, before, more));
      name = c.put_back.ensures.name ∙ c.loop.invariant.name;
    }
