use Rattle.std.proofs.Common.{◌≡◌, ◌-◌, find, length}
use Rattle.std.specs.List.{range_with_len}
use Rattle.pager_policy.specs.Given.{slots_of}
use Rattle.shadow_pager.specs.Shown.{shown}
use Rattle.log_rundown.proofs.SharedPlaces.{is_in_question}
use Rattle.log_rundown.proofs.places.shared_from.Given as goal

-- no slot before this one is the one
abbrev pub invariant-loop-m : goal.invariant-loop-m
invariant-loop-m l =
    find (is_in_question (shown l.pager).pager (l.p).0 l.n) (slots_of (shown l.pager).pager (l.p).0)
    ≡ find (is_in_question (shown l.pager).pager (l.p).0 l.n) (range_with_len l.m (length ((shown l.pager).pager.ring (l.p).0).slots - l.m))
