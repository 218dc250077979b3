-- The laws on the end of the serial policy's moves, as statements. This project's own.
use Rattle.std.specs.Prelude.{◌≡◌, ℕ, ◌+◌, ◌*◌, ◌^◌, ◌<◌, ◌≤◌, List, [], length}
use Rattle.std.specs.List.{AllByRecursion}
use Rattle.vm_types.specs.Configuration.{IsWellFormed}
use Rattle.vm_types.specs.declared.config.Config.{Config}
use Rattle.vm_journal.specs.declared.entry.Entry.{Entry}
use Rattle.pager_policy.specs.Moves.{Control, asking, control}
use Rattle.pager_model.specs.Spoken.{spoken}
use Rattle.pager_model.specs.Run.{IsRun}
use Rattle.pager_policy.specs.Serial.{Heard, IsMove, IsReached}
use Rattle.serial_laws.specs.Between.{IsBetween}
use Rattle.serial_laws.specs.Controlled.{IsControlled, IsInBody}
use Rattle.policy_ends.specs.Bound.{base_of_ranks, most_moves}
use Rattle.policy_ends.specs.Rank.{IsLower, rank}

-- each move outside the rundown, if its entries were legal, lowers the rank
abbrev pub MovesLower : Type 0
MovesLower =
    (config : Config) (past : List Entry) (c : Control) (heard : Heard) (more : List Entry) (next : Control) → IsBetween config past → IsControlled config past c → IsInBody c.doing
    → IsMove config past c heard more next → IsRun config more → IsLower (rank config more next) (rank config past c)

-- each number of a rank is small
abbrev pub RanksAreSmall : Type 0
RanksAreSmall = (config : Config) (past : List Entry) (c : Control) → IsWellFormed config → IsRun config past → AllByRecursion (λ (n : ℕ). n < base_of_ranks) (rank config past c)

-- along moves to a place outside the rundown each one lowers the number of moves that can follow, so they are no
-- more than can follow their start
abbrev pub MovesAreBounded : Type 0
MovesAreBounded =
    (config : Config) (start : List Entry) (from : Control) (told : List Heard) (past : List Entry) (c : Control) → IsBetween config start → IsControlled config start from
    → IsReached config start from told past c → IsInBody c.doing → IsRun config past → length told + most_moves config past c ≤ most_moves config start from

-- those that answer no request are fewer than this number, whatever the start
abbrev pub AnswersAreBounded : Type 0
AnswersAreBounded =
    (config : Config) (start : List Entry) (from : Control) (told : List Heard) (past : List Entry) (c : Control) → IsBetween config start → IsControlled config start from
    → IsReached config start from told past c → IsInBody c.doing → IsRun config past → spoken past ≡ spoken start → length told < base_of_ranks ^ 9

-- and all of them, from the first request on, fewer than so many for each request and once more
abbrev pub BodiesAreBounded : Type 0
BodiesAreBounded =
    (config : Config) (told : List Heard) (past : List Entry) (c : Control) → IsWellFormed config
    → IsReached config [] (control asking) told past c → IsInBody c.doing → IsRun config past → length told < (length config.body + 1) * base_of_ranks ^ 9
