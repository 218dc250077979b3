use Rattle.std.proofs.Common.{◌≡◌, ◌-◌, find, length}
use Rattle.std.specs.List.{range_with_len}
use Rattle.std.specs.Option.{option_map}
use Rattle.vm_state.specs.History.{pager}
use Rattle.vm_swapper.specs.Victims.{process_number}
use Rattle.seat_steps.specs.Leaving.{is_other_leaving}
use Rattle.seat_turns.proofs.processes.lowest_leaving.Given as goal

-- no process before this one is leaving
abbrev pub invariant-loop-n : goal.invariant-loop-n
invariant-loop-n g l =
    find (is_other_leaving (pager l.state) (option_map process_number l.but)) (range_with_len 0 (length l.state.config.procs))
    ≡ find (is_other_leaving (pager l.state) (option_map process_number l.but)) (range_with_len l.n (length l.state.config.procs - l.n))
