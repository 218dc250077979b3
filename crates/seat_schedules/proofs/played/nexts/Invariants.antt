use Rattle.vm_state.specs.History.{pager}
use Rattle.seat_schedules.specs.Played.{AreNext}
use Rattle.seat_schedules.proofs.played.nexts.Given as goal

-- the frames before this one are there
abbrev pub invariant-loop-f : goal.invariant-loop-f
invariant-loop-f g l = AreNext (pager l.state) l.f l.nexts.items
