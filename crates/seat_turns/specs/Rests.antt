-- When the writer and the swapper have nothing to do. Source: Kenah and Bate, "VAX/VMS Internals and Data
-- Structures", the modified page writer and the swapper; the order of the swapper's work is this project's own.
use Rattle.std.specs.Prelude.{◌≡◌, ◌⊎◌, ℕ, ◌≤◌, List, Option, Some, None, length}
use Rattle.vm_types.specs.declared.config.Config.{Config}
use Rattle.vm_journal.specs.declared.entry.Entry.{Entry}
use Rattle.pager_model.specs.Pager.{Pager}
use Rattle.pager_policy.specs.Swap.{leave_gives, swap_again, swap_in_flight, victim_gives}
use Rattle.seat_steps.specs.Leaving.{lowest_leaving}

-- the modified list is at most LOLIMIT pages long
abbrev pub WriterRests : Config → Pager → Type 0
WriterRests config a = length a.modified ≤ config.params.lolimit

-- it waits for its transfers; or none is leaving, and frames are enough or no process may leave
abbrev pub SwapperRestsBy : Config → List Entry → Pager → Option ℕ → Type 0
SwapperRestsBy config past a (Some q) = (leave_gives config past a q).answer ≡ swap_again swap_in_flight
SwapperRestsBy config past a None = (config.params.freelim ≤ length a.free) ⊎ (victim_gives config past a None ≡ None)

abbrev pub SwapperRests : Config → List Entry → Pager → Type 0
SwapperRests config past a = SwapperRestsBy config past a (lowest_leaving config a None)
