use Rattle.seat_steps.specs.Waits.{reference_answer}
use Rattle.std.proofs.Common.{inl}
use Rattle.seat_turns.proofs.Needs.{needs_frame, needs_process, needs_room}
use Rattle.seat_turns.proofs.asking.reference_needs.Goals as goal

pub returns-in-NotResident : goal.returns-in-NotResident
returns-in-NotResident c = λ config past p r shown is. needs_process (reference_answer config past p r) shown c.args.why is c.in-NotResident.is

pub returns-in-ModifiedFull : goal.returns-in-ModifiedFull
returns-in-ModifiedFull c = λ config past p r shown is. needs_room (reference_answer config past p r) shown c.args.why is c.in-ModifiedFull.is

pub returns-in-NoFrame : goal.returns-in-NoFrame
returns-in-NoFrame c = λ config past p r shown is. inl (needs_frame (reference_answer config past p r) shown c.args.why is c.in-NoFrame.is)
