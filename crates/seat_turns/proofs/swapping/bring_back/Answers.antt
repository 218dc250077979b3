use Rattle.std.proofs.Common.{false, refl, sym, ◌∙◌, subst}
use Rattle.seat_turns.proofs.OpenWork.{free_at, nothing_tried, turn_tried}
use Rattle.vm_types.specs.declared.names.Seat.{Seat}
use Rattle.seat_steps.specs.Waits.{WaitsForProcess}
use Rattle.seat_turns.specs.Stepping.{IsStepWhere, WaitsOwn}
use Rattle.seat_turns.proofs.OwnSteps.{own_leaves}
use Rattle.seat_turns.proofs.Stepped.{no_step}
use Rattle.seat_turns.proofs.swapping.bring_back.Goals as goal

pub returns-in-Resident-clause-tried : goal.returns-in-Resident-clause-tried
returns-in-Resident-clause-tried g c = nothing_tried c.args.state.now c.args.carrier.now c.requires.start false

pub turn_gone-requires-clause-free : goal.turn_gone-requires-clause-free
turn_gone-requires-clause-free g c κs within = free_at c.args.state.now c.args.carrier.now c.requires.start c.seat.result c.seat.ensures

pub returns-in-Gone-clause-tried : goal.returns-in-Gone-clause-tried
returns-in-Gone-clause-tried g c = turn_tried c.args.state.now c.args.carrier.now c.requires.start c.seat.result c.seat.ensures c.turn_gone.new.state c.turn_gone.result c.turn_gone.ensures.worked c.turn_gone.ensures.none

pub returns-in-Resident-clause-step : goal.returns-in-Resident-clause-step
returns-in-Resident-clause-step g c = λ request waits. no_step c.args.state.now c.args.state.now (c.args.carrier.now).seat.0 request refl

pub returns-in-Leaving-clause-step : goal.returns-in-Leaving-clause-step
returns-in-Leaving-clause-step g c = λ request waits.
    c.leave.ensures.step request (own_leaves c.args.state.now (c.args.carrier.now).seat c.args.p request waits (sym c.status.ensures ∙ c.in-Leaving.is))

pub returns-in-Gone-clause-step : goal.returns-in-Gone-clause-step
returns-in-Gone-clause-step g c =
    subst (λ (x : Seat). IsStepWhere c.args.state.now c.turn_gone.new.state x (WaitsOwn c.args.p WaitsForProcess)) c.seat.ensures c.turn_gone.ensures.step
