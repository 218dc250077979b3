use Rattle.std.proofs.Common.{◌≡◌, ℕ, ◌-◌, find, length}
use Rattle.std.specs.List.{range_with_len}
use Rattle.vm_types.specs.Status.{is_coming}
use Rattle.vm_state.specs.History.{pager}
use Rattle.serial_moves.proofs.requests.coming_process.Given as goal

-- no process before this one is coming
abbrev pub invariant-loop-q : goal.invariant-loop-q
invariant-loop-q g l =
    find (λ (q : ℕ). is_coming ((pager l.state).status q)) (range_with_len 0 (length l.state.config.procs))
    ≡ find (λ (q : ℕ). is_coming ((pager l.state).status q)) (range_with_len l.q (length l.state.config.procs - l.q))
