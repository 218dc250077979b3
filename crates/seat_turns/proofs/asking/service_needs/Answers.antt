use Rattle.seat_steps.specs.Waits.{service_answer}
use Rattle.seat_turns.proofs.Needs.{service_needs_process, service_needs_room}
use Rattle.seat_turns.proofs.asking.service_needs.Goals as goal

pub returns-in-NotResident : goal.returns-in-NotResident
returns-in-NotResident c = λ config past p s shown is. service_needs_process (service_answer config past p s) shown c.args.why is c.in-NotResident.is

pub returns-in-ModifiedFull : goal.returns-in-ModifiedFull
returns-in-ModifiedFull c = λ config past p s shown is. service_needs_room (service_answer config past p s) shown c.args.why is c.in-ModifiedFull.is
