use Rattle.std.proofs.Common.{◌≡◌, ◌-◌, find, length}
use Rattle.std.specs.List.{range_with_len}
use Rattle.std.specs.Option.{option_map}
use Rattle.vm_state.specs.History.{pager}
use Rattle.vm_swapper.specs.Victims.{leaves_coming, process_number}
use Rattle.vm_swapper.proofs.victims.coming.Given as goal

-- no process before this one may leave
abbrev pub invariant-loop-n : goal.invariant-loop-n
invariant-loop-n g l =
    find (leaves_coming l.state.past (pager l.state) (option_map process_number l.but)) (range_with_len 0 (length l.state.config.procs))
    ≡ find (leaves_coming l.state.past (pager l.state) (option_map process_number l.but)) (range_with_len l.n (length l.state.config.procs - l.n))
