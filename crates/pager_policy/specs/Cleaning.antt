-- Where the rundown is. This project's own.
use Rattle.std.specs.Prelude.{ℕ, Bool}

-- at a slot of a process, and whether the carrier for its eviction has failed; or in the rounds of writing,
-- with how many rounds follow, and how many lifts are left in this one
pub data Cleaning : Type 0 where
  evicting : ℕ → ℕ → Bool → Cleaning
  rounds : ℕ → ℕ → Cleaning
