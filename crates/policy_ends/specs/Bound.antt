-- A rank as one number: how many moves can follow. This project's own.
use Rattle.std.specs.Prelude.{ℕ, ◌+◌, ◌*◌, ◌^◌, List, [], ◌∷◌, length}
use Rattle.vm_types.specs.declared.config.Config.{Config}
use Rattle.vm_journal.specs.declared.entry.Entry.{Entry}
use Rattle.pager_policy.specs.Moves.{Control}
use Rattle.policy_ends.specs.Rank.{rank}

-- the value of these digits to a base, the first one the highest
abbrev pub value_of : ℕ → List ℕ → ℕ
value_of base [] = 0
value_of base (x ∷ xs) = x * base ^ length xs + value_of base xs

-- above each number of a rank
abbrev pub base_of_ranks : ℕ
base_of_ranks = 2 ^ 23

-- so many moves can follow, at most, before the rundown
abbrev pub most_moves : Config → List Entry → Control → ℕ
most_moves config past c = value_of base_of_ranks (rank config past c)
