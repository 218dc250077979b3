use Rattle.std.proofs.Common.{refl, sym}
use Rattle.std.specs.Option.{option_map}
use Rattle.vm_types.specs.declared.names.ProcStatus.TheVariants as status
use Rattle.call_begins.specs.MayBegin.{empty}
use Rattle.vm_swapper.specs.Victims.{process_number}
use Rattle.seat_turns.proofs.OpenWork.{may_turn_victim, nothing_worked, turn_worked}
use Rattle.seat_steps.specs.Steps.{sends_out}
use Rattle.seat_turns.proofs.Stepped.{no_step, step_of}
use Rattle.seat_turns.proofs.swapping.turn_victim.Goals as goal

pub turn-requires-after_bounds : goal.turn-requires-after_bounds
turn-requires-after_bounds g c κs within =
    may_turn_victim c.args.state.now c.args.seat c.requires.free c.run_law.ensures.formed c.run_law.ensures.run c.args.but c.in-Some.q c.turns_are_legal.ensures.victim c.in-Some.ensures

pub returns-in-Some-clause-worked : goal.returns-in-Some-clause-worked
returns-in-Some-clause-worked g c = turn_worked c.args.state.now c.turn.new.self c.args.seat c.requires.free c.in-Some.q status.Leaving c.turn.ensures

pub returns-in-None-clause-worked : goal.returns-in-None-clause-worked
returns-in-None-clause-worked g c = nothing_worked c.args.state.now c.args.seat c.requires.free (empty c.args.seat) refl

pub returns-in-Some-clause-step : goal.returns-in-Some-clause-step
returns-in-Some-clause-step g c = λ request choosing.
    step_of c.args.state.now c.turn.new.self c.args.seat request (sends_out (c.in-Some.q).0)
    (record { but = option_map process_number c.args.but; looks = choosing.looks; none_leaving = choosing.none_leaving; few = choosing.few; chosen = sym c.in-Some.ensures }) c.turn.ensures

pub returns-in-None-clause-step : goal.returns-in-None-clause-step
returns-in-None-clause-step g c = λ request choosing. no_step c.args.state.now c.args.state.now (c.args.seat).0 request refl
