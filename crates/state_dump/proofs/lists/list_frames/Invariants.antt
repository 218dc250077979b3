use Rattle.vm_state.specs.History.{pager}
use Rattle.vm_state.specs.Readings.{listed}
use Rattle.state_dump.proofs.Walks.{IsTaken}
use Rattle.state_dump.proofs.lists.list_frames.Given as goal

-- the frames before this one were taken
abbrev pub invariant-loop : goal.invariant-loop
invariant-loop g l = IsTaken (listed (pager l.state) l.fn.name) l.counter l.frames.items l.at
