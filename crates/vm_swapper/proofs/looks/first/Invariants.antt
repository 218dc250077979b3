use Rattle.std.proofs.Common.{◌≡◌, ◌-◌, find, length}
use Rattle.std.specs.List.{range_with_len}
use Rattle.pager_policy.specs.Given.{slots_of}
use Rattle.vm_state.specs.History.{pager}
use Rattle.vm_swapper.specs.Looks.{has}
use Rattle.vm_swapper.proofs.looks.first.Given as goal

-- no slot before this one has it
abbrev pub invariant-loop-n : goal.invariant-loop-n
invariant-loop-n g l =
    find (has l.state.config l.state.past (pager l.state) (l.p).0 l.look) (slots_of (pager l.state) (l.p).0)
    ≡ find (has l.state.config l.state.past (pager l.state) (l.p).0 l.look) (range_with_len l.n (length ((pager l.state).ring (l.p).0).slots - l.n))
