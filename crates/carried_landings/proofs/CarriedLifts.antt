-- What the carrying leaves of the lifts of a carrier.
use Rattle.std.proofs.Common.{◌≡◌, suc, List, [], ◌∷◌, length, map, refl, sym, ap, ◌∙◌, subst, arith}
use Rattle.std.specs.List.{AllByRecursion}
use Rattle.vm_types.specs.BlockView.{BlockView, Tells}
use Rattle.vm_types.specs.declared.pool_name.PoolName.{PoolName}
use Rattle.frame_store.specs.LiftView.{CarriedAs, LiftView}
use Rattle.frame_store.specs.declared.lift.Carried.{Carried}
use Rattle.frame_store.specs.declared.lift.Carried.TheVariants.{Waiting}
use Rattle.lift_carriers.specs.Carrying.{AreCarried, HasCarried}
use Rattle.call_begins.specs.Lifted.{place_of}

module _ {B : Type 0} (seen : B → BlockView) (tells : Tells) where
  abbrev Are : List (LiftView B) → List (LiftView B) → Type 0
  Are old new = AreCarried seen tells old new

  rest_carried : (x y : LiftView B) (xs ys : List (LiftView B)) → Are (x ∷ xs) (y ∷ ys) → Are xs ys
  rest_carried x y xs ys are = record { count = (let same = are.count in omega (arith, same)); each = λ k v w was now. are.each (suc k) v w was now }

  first_carried : (x y : LiftView B) (xs ys : List (LiftView B)) → Are (x ∷ xs) (y ∷ ys) → HasCarried seen tells x y
  first_carried x y xs ys are = are.each 0 x y refl refl

  none_more : (x : LiftView B) (xs : List (LiftView B)) → length (x ∷ xs) ≡ length {A = LiftView B} [] → ⊥
  none_more x xs same = omega (arith, same)

  -- they are of the same places
  pub same_places : (old new : List (LiftView B)) → Are old new → map place_of new ≡ map place_of old
  same_places [] [] are = refl
  same_places [] (y ∷ ys) are = absurd (none_more y ys are.count)
  same_places (x ∷ xs) [] are = absurd (none_more x xs (sym are.count))
  same_places (x ∷ xs) (y ∷ ys) are =
      λ i. ap place_of (first_carried x y xs ys are).same i ∷ same_places xs ys (rest_carried x y xs ys are) i

  -- none of them waits
  pub none_waits : (old new : List (LiftView B)) → Are old new → AllByRecursion (λ (lift : LiftView B). lift.result ≡ Waiting → ⊥) new
  none_waits [] [] are = tt
  none_waits [] (y ∷ ys) are = absurd (none_more y ys are.count)
  none_waits (x ∷ xs) [] are = tt
  none_waits (x ∷ xs) (y ∷ ys) are = (
    λ waits. subst (λ (r : Carried). CarriedAs seen tells r x y) waits (first_carried x y xs ys are).result,
    none_waits xs ys (rest_carried x y xs ys are),
  )

  -- their buffers are of the same pool
  pub same_pools : (pool : PoolName) (old new : List (LiftView B)) → Are old new → AllByRecursion (λ (lift : LiftView B). lift.pool ≡ pool) old → AllByRecursion (λ (lift : LiftView B). lift.pool ≡ pool) new
  same_pools pool [] [] are all = tt
  same_pools pool [] (y ∷ ys) are all = absurd (none_more y ys are.count)
  same_pools pool (x ∷ xs) [] are all = tt
  same_pools pool (x ∷ xs) (y ∷ ys) are all = (
    ap (λ (lift : LiftView B). lift.pool) (first_carried x y xs ys are).same ∙ all.0,
    same_pools pool xs ys (rest_carried x y xs ys are) all.1,
  )
