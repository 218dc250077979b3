use Rattle.vm_state.specs.History.{pager}
use Rattle.vm_swapper.specs.Runs.{wanted_at}
use Rattle.vm_swapper.proofs.Gathered.{IsGathered}
use Rattle.vm_swapper.proofs.runs.gathered.Given as goal

-- those of the slots before this one are gathered
abbrev pub invariant-loop-n : goal.invariant-loop-n
invariant-loop-n g l = IsGathered (wanted_at l.state.config l.state.past (pager l.state) ((l.run).p).0 l.wanted) (l.run).slot l.most l.items.items l.n
