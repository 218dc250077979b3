use Rattle.serial_laws.proofs.Kept.{turns_legal}
use Rattle.serial_laws.proofs.Turns.{may_work}
use Rattle.serial_laws.proofs.laws.made_moves_are_legal.Goals as goal

pub returns-clause-seats : goal.returns-clause-seats
returns-clause-seats c = λ config past seat between there. may_work config past seat there between

pub returns-clause-turns : goal.returns-clause-turns
returns-clause-turns c = turns_legal
