-- A store after one place is changed.
use Rattle.std.proofs.Common.{◌≡◌, ℕ, zero, suc, ◌<◌, Bool, true, false, if◌then◌else◌, List, ◌∷◌, Option, Some, None, length, map, replicate, slice_get, slice_set, slice_index_or, refl, inl, inr, sym, ap, ◌∙◌, subst, arith, length-set}
use Rattle.std.specs.Prelude.{◌⊎◌, IsSome}
use Rattle.std.specs.Option.{option_map}
use Rattle.std.proofs.lemmas.Bool.{cases_eq, true≢false}
use Rattle.std.proofs.lemmas.List.{length-map, length-replicate, map-set, set-get_or, get_or-replicate, get_or-set_same}
use Rattle.std.proofs.lemmas.Option.{slice_get-map, slice_get-get_or, get_or_from_slice_get, slice_get_read, slice_get_within, same_Some}
use Rattle.std.proofs.lemmas.Grind.{common_steps}
use Rattle.std.proofs.lemmas.Option.{gets}
use Rattle.vm_types.specs.declared.pool_name.PoolName.{PoolName}
use Rattle.page_pool.specs.Pool.{Buffer}
use Rattle.frame_store.specs.Blocks.{held_at}
use Rattle.frame_store.specs.StoreView.{IsStore, StoreView, bytes_of}
use Rattle.frame_store.proofs.Places.{held_below, get_held}

pub get_set_same : {X : Type 0} (xs : List X) (i : ℕ) (x : X) → i < length xs → slice_get (slice_set xs i x) i ≡ Some x
get_set_same xs i x below = slice_get-get_or (slice_set xs i x) i x (subst (λ n. i < n) (sym (length-set xs i x)) below) ∙ ap Some (get_or-set_same xs i x x below)

pub get_set_other : {X : Type 0} (xs : List X) (i j : ℕ) (x : X) → (i ≡ j → ⊥) → slice_get (slice_set xs i x) j ≡ slice_get xs j
get_set_other xs i j x apart = grind (arith, common_steps, gets)

pub stores_equal : {B : Type 0} (s t : StoreView B) → s.pool ≡ t.pool → s.left ≡ t.left → s.frames ≡ t.frames → s.buffers ≡ t.buffers → s.ids ≡ t.ids → s.blocks ≡ t.blocks → s.flights ≡ t.flights → s ≡ t
stores_equal s t pool left frames buffers ids blocks flights =
    λ i. record { pool = pool i; left = left i; frames = frames i; buffers = buffers i; ids = ids i; blocks = blocks i; flights = flights i }

-- the buffer of a frame, by its bytes
pub buffer_there : (bufs : List (Option Buffer)) (f : ℕ) → IsSome (held_at (bytes_of bufs) f) → (b : Buffer) × (slice_get bufs f ≡ Some (Some b)) × (held_at (bytes_of bufs) f ≡ Some b.bytes)
buffer_there bufs f some = go (held_at bufs f) (slice_get-get_or bufs f None below)
  where
    below : f < length bufs
    below = subst (λ n. f < n) (length-map bufs (option_map (λ (b : Buffer). b.bytes))) (held_below (bytes_of bufs) f some)

    there : (o : Option Buffer) → slice_get bufs f ≡ Some o → held_at (bytes_of bufs) f ≡ option_map (λ (b : Buffer). b.bytes) o
    there o is = get_held (bytes_of bufs) f _ (slice_get-map (option_map (λ (b : Buffer). b.bytes)) bufs f ∙ ap (option_map (option_map (λ (b : Buffer). b.bytes))) is)

    go : (o : Option Buffer) → slice_get bufs f ≡ Some o → (b : Buffer) × (slice_get bufs f ≡ Some (Some b)) × (held_at (bytes_of bufs) f ≡ Some b.bytes)
    go None is = absurd (true≢false (sym (subst IsSome (there None is) some)))
    go (Some b) is = (b, is, there (Some b) is)

pub buffer_below : (bufs : List (Option Buffer)) (f : ℕ) → IsSome (held_at (bytes_of bufs) f) → f < length bufs
buffer_below bufs f some = slice_get_within bufs f _ (buffer_there bufs f some).1

module _ {pool : PoolName} {bufs : List (Option Buffer)} {numbers : List (Option ℕ)} (kept : IsStore pool bufs numbers) where
  pub buffer_set : (f : ℕ) (o : Option Buffer) → f < length bufs → ((b : Buffer) → o ≡ Some b → b.pool ≡ pool) → IsStore pool (slice_set bufs f o) numbers
  buffer_set f o below of = record { buffers = λ g b there. go g b there (cases_eq f g); flights = kept.flights ∙ sym (length-set bufs f o) }
    where
      go : (g : ℕ) (b : Buffer) → slice_get (slice_set bufs f o) g ≡ Some (Some b) → (f ≡ g) ⊎ (f ≡ g → ⊥) → b.pool ≡ pool
      go g b there (inl same) = of b (same_Some _ _ (sym (get_set_same bufs f o below) ∙ (ap (slice_get (slice_set bufs f o)) same ∙ there)))
      go g b there (inr apart) = kept.buffers g b (sym (get_set_other bufs f g o apart) ∙ there)

  pub flight_set : (f : ℕ) (o : Option ℕ) → IsStore pool bufs (slice_set numbers f o)
  flight_set f o = record { buffers = kept.buffers; flights = length-set numbers f o ∙ kept.flights }

  pub pool_same : {other : PoolName} → other ≡ pool → IsStore other bufs numbers
  pool_same same = subst (λ (p : PoolName). IsStore p bufs numbers) (sym same) kept

-- a buffer put into a frame's place after a read; after a write the place is as it was
pub put_of : {pool : PoolName} (bufs : List (Option Buffer)) → ((f : ℕ) (b : Buffer) → slice_get bufs f ≡ Some (Some b) → b.pool ≡ pool)
    → (f : ℕ) (old new : Option Buffer) (buf : Buffer) (read : Bool) → f < length bufs → buf.pool ≡ pool → old ≡ slice_index_or bufs f old → new ≡ (if read then Some buf else old)
    → (b : Buffer) → new ≡ Some b → b.pool ≡ pool
put_of bufs each f old new buf true below of was is b there = sym (ap (λ (x : Buffer). x.pool) (same_Some _ _ (sym is ∙ there))) ∙ of
put_of bufs each f old new buf false below of was is b there = each f b (slice_get_read bufs (length bufs) f old refl below was ∙ ap Some (sym is ∙ there))

pub put_bytes : (bufs : List (Option Buffer)) (f : ℕ) (old new : Option Buffer) (buf : Buffer) (read : Bool) → old ≡ slice_index_or bufs f old → new ≡ (if read then Some buf else old)
    → bytes_of (slice_set bufs f new) ≡ (if read then slice_set (bytes_of bufs) f (Some buf.bytes) else bytes_of bufs)
put_bytes bufs f old new buf true was is = ap (λ o. bytes_of (slice_set bufs f o)) is ∙ map-set (option_map (λ (b : Buffer). b.bytes)) bufs f (Some buf)
put_bytes bufs f old new buf false was is = ap bytes_of (ap (slice_set bufs f) (is ∙ was) ∙ set-get_or bufs f old)

-- ---- at the start
pub replicated : {X : Type 0} (n : ℕ) (x y : X) (k : ℕ) → slice_get (replicate n x) k ≡ Some y → x ≡ y
replicated n x y k there =
    let below = slice_get_within (replicate n x) k y there in
    sym (get_or-replicate n k x y (omega (arith, below, length-replicate n x))) ∙ get_or_from_slice_get (replicate n x) k y y there

pub map_replicate : {X Y : Type 0} (f : X → Y) (n : ℕ) (x : X) → map f (replicate n x) ≡ replicate n (f x)
map_replicate f zero x = refl
map_replicate f (suc n) x = ap (λ ys. f x ∷ ys) (map_replicate f n x)

-- ---- an empty place
pub emptied : {X : Type 0} (places : List (Option X)) (n : ℕ) → IsSome (held_at places n) → slice_get (slice_set places n None) n ≡ Some None
emptied places n some = get_set_same places n None (held_below places n some)
