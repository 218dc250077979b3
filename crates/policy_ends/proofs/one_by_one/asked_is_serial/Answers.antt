use Rattle.policy_ends.proofs.Asked.{asked_led, asked_one, asked_serial}
use Rattle.policy_ends.proofs.one_by_one.asked_is_serial.Goals as goal

pub returns-clause-reached : goal.returns-clause-reached
returns-clause-reached c = asked_led

pub returns-clause-serial : goal.returns-clause-serial
returns-clause-serial c = asked_serial

pub returns-clause-one : goal.returns-clause-one
returns-clause-one c = asked_one
