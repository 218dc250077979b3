use Rattle.policy_ends.proofs.Chains.{answers_bounded, bodies_bounded, moves_bounded}
use Rattle.policy_ends.proofs.Small.{small_numbers}
use Rattle.policy_ends.proofs.laws.moves_are_bounded.Goals as goal

pub returns-clause-small : goal.returns-clause-small
returns-clause-small c = λ config past place formed run. small_numbers config past formed run place

pub returns-clause-moves : goal.returns-clause-moves
returns-clause-moves c = moves_bounded

pub returns-clause-answers : goal.returns-clause-answers
returns-clause-answers c = answers_bounded

pub returns-clause-bodies : goal.returns-clause-bodies
returns-clause-bodies c = bodies_bounded
