use Rattle.std.proofs.Common.{◌≡◌, ◌-◌, find, length}
use Rattle.std.specs.List.{range_with_len}
use Rattle.vm_state.specs.History.{pager}
use Rattle.serial_moves.specs.Finders.{is_other_leaving}
use Rattle.serial_moves.proofs.finding.leaving_other.Given as goal

-- no process before this one is leaving
abbrev pub invariant-loop-n : goal.invariant-loop-n
invariant-loop-n g l =
    find (is_other_leaving (pager l.state) (l.p).0) (range_with_len 0 (length l.state.config.procs))
    ≡ find (is_other_leaving (pager l.state) (l.p).0) (range_with_len l.n (length l.state.config.procs - l.n))
