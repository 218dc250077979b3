-- A list with ascending numbers within bounds, one after the other or as a whole.
use Rattle.std.proofs.Common.{ℕ, ◌+◌, ◌<◌, ◌≤◌, List, [], ◌∷◌, map, arith}
use Rattle.std.specs.List.{AllByRecursion}
use Rattle.dump_bytes.specs.Bounds.{Ascends}
use Rattle.dump_bytes.proofs.ListReaders.{Rises}

module _ {A : Type 0} (key : A → ℕ) (ok : A → Type 0) where
  pub rises_each : (floor ceiling : ℕ) (xs : List A) → Rises key ok floor ceiling xs → AllByRecursion ok xs
  rises_each floor ceiling [] r = tt
  rises_each floor ceiling (x ∷ xs) r = (r.0, rises_each (key x + 1) ceiling xs r.3)

  pub rises_below : (floor ceiling : ℕ) (xs : List A) → Rises key ok floor ceiling xs → AllByRecursion (λ n. n < ceiling) (map key xs)
  rises_below floor ceiling [] r = tt
  rises_below floor ceiling (x ∷ xs) r = (r.2, rises_below (key x + 1) ceiling xs r.3)

  rises_above : (n floor ceiling : ℕ) (xs : List A) → n < floor → Rises key ok floor ceiling xs → AllByRecursion (λ m. n < m) (map key xs)
  rises_above n floor ceiling [] lt r = tt
  rises_above n floor ceiling (x ∷ xs) lt r = let a = r.1 in (omega arith, rises_above n (key x + 1) ceiling xs (omega arith) r.3)

  pub rises_ascends : (floor ceiling : ℕ) (xs : List A) → Rises key ok floor ceiling xs → Ascends (map key xs)
  rises_ascends floor ceiling [] r = tt
  rises_ascends floor ceiling (x ∷ xs) r = (rises_above (key x) (key x + 1) ceiling xs (omega arith) r.3, rises_ascends (key x + 1) ceiling xs r.3)

  more_above : (n : ℕ) (ms : List ℕ) → AllByRecursion (λ m. n < m) ms → AllByRecursion (λ m. n + 1 ≤ m) ms
  more_above n [] h = tt
  more_above n (m ∷ ms) h = let a = h.0 in (omega arith, more_above n ms h.1)

  pub rises_of : (floor ceiling : ℕ) (xs : List A) → AllByRecursion ok xs → AllByRecursion (λ n. n < ceiling) (map key xs) → AllByRecursion (λ n. floor ≤ n) (map key xs)
      → Ascends (map key xs) → Rises key ok floor ceiling xs
  rises_of floor ceiling [] each below from up = tt
  rises_of floor ceiling (x ∷ xs) each below from up =
      (each.0, from.0, below.0, rises_of (key x + 1) ceiling xs each.1 below.1 (more_above (key x) (map key xs) up.0) up.1)
