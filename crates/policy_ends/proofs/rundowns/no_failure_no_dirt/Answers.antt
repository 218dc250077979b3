use Rattle.policy_ends.proofs.CleanRuns.{no_failure_no_dirt}
use Rattle.policy_ends.proofs.rundowns.no_failure_no_dirt.Goals as goal

pub returns : goal.returns
returns c = no_failure_no_dirt
