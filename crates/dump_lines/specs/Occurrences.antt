-- How often a number is in a list. This project's own.
use Rattle.std.specs.Prelude.{ℕ, List, count_by, nat_eq}

abbrev pub times_in : List ℕ → ℕ → ℕ
times_in numbers f = count_by (λ (n : ℕ). nat_eq n f) numbers
