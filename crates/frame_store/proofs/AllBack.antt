-- All buffers of a store, if none is out: each is there, and of the pool.
use Rattle.std.proofs.Common.{◌≡◌, ℕ, ◌<◌, List, Option, Some, None, slice_get, slice_index_or, refl, sym, ap, ◌∙◌, subst}
use Rattle.std.specs.Prelude.{All, IfSome, IsSome}
use Rattle.std.specs.Option.{option_map}
use Rattle.std.proofs.lemmas.Bool.{false≢true}
use Rattle.std.proofs.lemmas.List.{get_or-map, length-map}
use Rattle.std.proofs.lemmas.Option.{slice_get-get_or}
use Rattle.vm_types.specs.declared.pool_name.PoolName.{PoolName}
use Rattle.page_pool.specs.Pool.{Buffer}
use Rattle.frame_store.specs.StoreView.{bytes_of}

-- a buffer whose bytes are there is there
pub all_there : (bufs : List (Option Buffer)) → All IsSome (bytes_of bufs) → All IsSome bufs
all_there bufs all k d within = go (slice_index_or bufs k d) refl
  where
    there : IsSome (option_map (λ (b : Buffer). b.bytes) (slice_index_or bufs k d))
    there = subst IsSome (get_or-map (option_map (λ (b : Buffer). b.bytes)) bufs k d None within) (all k None (subst (λ n. k < n) (sym (length-map bufs (option_map (λ (b : Buffer). b.bytes)))) within))

    go : (o : Option Buffer) → slice_index_or bufs k d ≡ o → IsSome (slice_index_or bufs k d)
    go None is = absurd (false≢true (subst (λ (o : Option Buffer). IsSome (option_map (λ (b : Buffer). b.bytes) o)) is there))
    go (Some b) is = subst IsSome (sym is) refl

pub all_of_pool : (pool : PoolName) (bufs : List (Option Buffer)) → ((f : ℕ) (b : Buffer) → slice_get bufs f ≡ Some (Some b) → b.pool ≡ pool) → All (λ (buf : Option Buffer). IfSome buf (λ b. b.pool ≡ pool)) bufs
all_of_pool pool bufs of k d within = go (slice_index_or bufs k d) refl
  where
    go : (o : Option Buffer) → slice_index_or bufs k d ≡ o → IfSome (slice_index_or bufs k d) (λ b. b.pool ≡ pool)
    go None is = subst (λ (o : Option Buffer). IfSome o (λ b. b.pool ≡ pool)) (sym is) tt
    go (Some b) is = subst (λ (o : Option Buffer). IfSome o (λ b. b.pool ≡ pool)) (sym is) (of k b (slice_get-get_or bufs k d within ∙ ap Some is))
