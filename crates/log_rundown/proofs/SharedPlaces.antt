-- The slots that have a shared page, one after another.
use Rattle.std.proofs.Common.{◌≡◌, ℕ, suc, ◌+◌, ◌-◌, ◌<◌, ◌≤◌, ◌&&◌, Bool, Option, Some, None, length, nat_le, refl, sym, ap, ◌∙◌, arith}
use Rattle.std.specs.List.{range_with_len}
use Rattle.vm_types.specs.declared.config.Config.{Config}
use Rattle.pager_model.specs.Pager.{Pager}
use Rattle.pager_policy.specs.Rundown.{Place as PlaceIs, is_shared_at, place_in, shared_from, shared_of_processes, shared_place}

-- whether a slot comes in question
abbrev pub is_in_question : Pager → ℕ → ℕ → ℕ → Bool
is_in_question a p n m = nat_le n m && is_shared_at a p m

-- a place in plain numbers
abbrev pub place_at : ℕ → ℕ → PlaceIs
place_at p m = record { process = p; slot = m }

-- ---- the processes from a number on
abbrev pub of_those_from : Pager → ℕ → ℕ → Option PlaceIs
of_those_from a count q = shared_of_processes a (range_with_len q (count - q))

module _ (a : Pager) (count q : ℕ) where
  one_less : q < count → of_those_from a count q ≡ place_in q (shared_from a q 0) (of_those_from a count (q + 1))
  one_less less = let more : count - q ≡ suc (count - (q + 1)) = omega (arith, less) in ap (λ (k : ℕ). shared_of_processes a (range_with_len q k)) more

  pub found_of : (m : ℕ) → q < count → Some m ≡ shared_from a q 0 → of_those_from a count q ≡ Some (place_at q m)
  found_of m less is = one_less less ∙ ap (λ (o : Option ℕ). place_in q o (of_those_from a count (q + 1))) (sym is)

  pub none_of : q < count → None ≡ shared_from a q 0 → of_those_from a count q ≡ of_those_from a count (q + 1)
  none_of less is = one_less less ∙ ap (λ (o : Option ℕ). place_in q o (of_those_from a count (q + 1))) (sym is)

  pub none_behind : count ≤ q → of_those_from a count q ≡ None
  none_behind least = let none : count - q ≡ 0 = omega (arith, least) in ap (λ (k : ℕ). shared_of_processes a (range_with_len q k)) none

-- ---- from a slot of a process on
module _ (config : Config) (a : Pager) (p n : ℕ) where
  pub place_found : (m : ℕ) → Some m ≡ shared_from a p n → Some (place_at p m) ≡ shared_place config a p n
  place_found m is = ap (λ (o : Option ℕ). place_in p o (of_those_from a (length config.procs) (p + 1))) is

  pub later_found : (o : Option PlaceIs) → None ≡ shared_from a p n → (count : ℕ) → count ≡ length config.procs → o ≡ of_those_from a count (p + 1) → o ≡ shared_place config a p n
  later_found o none count counted is =
      is ∙ (ap (λ (k : ℕ). of_those_from a k (p + 1)) counted ∙ ap (λ (x : Option ℕ). place_in p x (of_those_from a (length config.procs) (p + 1))) none)

  -- behind the last process there is none
  pub none_absent : None ≡ shared_from a p n → length config.procs ≤ p → None ≡ shared_place config a p n
  none_absent none least = later_found None none (length config.procs) refl (sym (none_behind a (length config.procs) (p + 1) (omega (arith, least))))
