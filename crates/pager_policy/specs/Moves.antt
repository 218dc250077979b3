-- Moves of the serial policy: one call with the carrying that follows it, or one TURN. This project's own.
use Rattle.std.specs.Prelude.{ℕ, Bool, List, Option, Some, None}
use Rattle.vm_journal.specs.declared.entry.What.{What}
use Rattle.pager_policy.specs.Cleaning.{Cleaning}

-- where the policy is between two moves: at the next request; after an answer, in the writer's part or in the
-- swapper's part (either may have begun) for the answered process; or in the rundown
pub data Doing : Type 0 where
  asking : Doing
  saving : Bool → ℕ → Doing
  freeing : Bool → ℕ → Doing
  cleaning : Cleaning → Doing

-- what is being done, and the process that is being left until it is settled
pub record Control : Type 0 where
  pub doing : Doing
  pub leaving : Option ℕ

abbrev pub control : Doing → Control
control doing = record { doing = doing; leaving = None }

abbrev pub while_leaving : Doing → ℕ → Control
while_leaving doing q = record { doing = doing; leaving = Some q }

-- where the policy goes on after a carrier has landed, or that the request is refused
pub data After : Type 0 where
  goes : Control → After
  refuses : After

-- a seat's entries, and where the policy goes on; or its entries that begin flights, and where the policy goes
-- on by whether they all failed and whether the first one did; or no move
pub data Move : Type 0 where
  makes : ℕ → List What → Control → Move
  carries : ℕ → List What → (Bool → Bool → After) → Move
  rests : Move
