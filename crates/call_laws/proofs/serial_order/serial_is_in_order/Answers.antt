use Rattle.call_laws.proofs.SerialInOrder.{serial_answered, serial_in_order}
use Rattle.call_laws.proofs.SerialIsOne.{rundown_is_one, serial_is_one}
use Rattle.call_laws.proofs.serial_order.serial_is_in_order.Goals as goal

pub returns-clause-order : goal.returns-clause-order
returns-clause-order c = serial_in_order

pub returns-clause-answered : goal.returns-clause-answered
returns-clause-answered c = serial_answered

pub returns-clause-one : goal.returns-clause-one
returns-clause-one c = serial_is_one

pub returns-clause-rundown : goal.returns-clause-rundown
returns-clause-rundown c = rundown_is_one
