use Rattle.std.proofs.Common.{◌≡◌, ◌-◌, find, length}
use Rattle.std.specs.List.{range_with_len}
use Rattle.pager_policy.specs.Given.{slots_of}
use Rattle.vm_state.specs.History.{pager}
use Rattle.rundown.proofs.SharedPlaces.{is_in_question}
use Rattle.rundown.proofs.places.shared_from.Given as goal

-- no slot before this one is the one
abbrev pub invariant-loop-m : goal.invariant-loop-m
invariant-loop-m g l =
    find (is_in_question (pager l.state) (l.p).0 l.n) (slots_of (pager l.state) (l.p).0)
    ≡ find (is_in_question (pager l.state) (l.p).0 l.n) (range_with_len l.m (length ((pager l.state).ring (l.p).0).slots - l.m))
