-- A search through a range: the next page, and then the others.
use Rattle.std.proofs.Common.{◌≡◌, ℕ, suc, ◌+◌, ◌-◌, ◌<◌, Bool, ap, ◌∙◌, arith}
use Rattle.std.specs.Prelude.{◌||◌}
use Rattle.std.specs.List.{list_any, range_with_len}

pub any_step : (t : ℕ → Bool) (first n pages : ℕ) → n < pages → list_any t (range_with_len (first + n) (pages - n)) ≡ (t (first + n) || list_any t (range_with_len (first + (n + 1)) (pages - (n + 1))))
any_step t first n pages less =
    (λ i. list_any t (range_with_len (first + n) (more i)))
    ∙ ap (λ (from : ℕ). t (first + n) || list_any t (range_with_len from (pages - (n + 1)))) next
  where
    more : pages - n ≡ suc (pages - (n + 1))
    more = omega (arith, less)

    next : first + n + 1 ≡ first + (n + 1)
    next = omega arith
