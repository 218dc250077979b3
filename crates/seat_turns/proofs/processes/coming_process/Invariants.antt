use Rattle.std.proofs.Common.{◌≡◌, ℕ, ◌-◌, find, length}
use Rattle.std.specs.List.{range_with_len}
use Rattle.vm_types.specs.Status.{is_coming}
use Rattle.vm_state.specs.History.{pager}
use Rattle.seat_turns.proofs.processes.coming_process.Given as goal

-- no process before this one is coming
abbrev pub invariant-loop-n : goal.invariant-loop-n
invariant-loop-n g l =
    find (λ (q : ℕ). is_coming ((pager l.state).status q)) (range_with_len 0 (length l.state.config.procs))
    ≡ find (λ (q : ℕ). is_coming ((pager l.state).status q)) (range_with_len l.n (length l.state.config.procs - l.n))
