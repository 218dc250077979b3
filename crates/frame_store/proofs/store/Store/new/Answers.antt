use Rattle.std.proofs.Common.{◌≡◌, length, map, Some, slice_get, sym, ap, ◌∙◌, subst, arith}
use Rattle.std.specs.Option.{option_map}
use Rattle.std.proofs.lemmas.List.{length-replicate}
use Rattle.std.proofs.lemmas.Option.{same_Some}
use Rattle.page_pool.specs.Pool.{Buffer}
use Rattle.frame_store.proofs.StoreKept.{map_replicate, replicated}
use Rattle.frame_store.proofs.store.Store.new.Goals as goal

pub returns-clause-buffers : goal.returns-clause-buffers
returns-clause-buffers g c = ap (map (option_map (λ (b : Buffer). b.bytes))) c.in_ok-buffers.ensures.buffers ∙ map_replicate (option_map (λ (b : Buffer). b.bytes)) c.args.config.now.frames _

pub invariant_of-result : goal.invariant_of-result
invariant_of-result g c =
    let buffers = c.in_ok-buffers.ensures.buffers in
    let buffers_long : length c.in_ok-buffers.buffers.items ≡ c.args.config.now.frames = ap length buffers ∙ length-replicate c.args.config.now.frames _ in
    let flights_long = c.in_ok-flights.ensures.len in
    record {
      buffers = λ f b there. sym (ap (λ (x : Buffer). x.pool) (same_Some _ _ (replicated c.args.config.now.frames _ _ f (subst (λ xs. slice_get xs f ≡ Some (Some b)) buffers there)))) ∙ sym c.in_ok-buffers.ensures.name;
      flights = omega (arith, buffers_long, flights_long, c.in_ok-flights.flights.ok.0);
    }
