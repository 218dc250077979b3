use Rattle.policy_ends.proofs.DirtyRuns.{dirty_because}
use Rattle.policy_ends.proofs.rundowns.dirty_because.Goals as goal

pub returns : goal.returns
returns c = dirty_because
