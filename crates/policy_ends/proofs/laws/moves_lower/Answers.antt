use Rattle.policy_ends.proofs.WalksLower.{moves_lower}
use Rattle.policy_ends.proofs.laws.moves_lower.Goals as goal

pub returns : goal.returns
returns c = moves_lower
