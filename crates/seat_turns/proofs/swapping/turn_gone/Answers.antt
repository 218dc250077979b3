use Rattle.std.proofs.Common.{refl, ◌∙◌, sym}
use Rattle.vm_types.specs.declared.names.ProcStatus.TheVariants as status
use Rattle.call_begins.specs.MayBegin.{empty}
use Rattle.seat_turns.proofs.OpenWork.{may_turn_comer, may_turn_gone, may_work, nothing_worked, turn_worked}
use Rattle.seat_turns.proofs.OwnSteps.{barred_step, begun_step}
use Rattle.seat_turns.proofs.Stepped.{no_step}
use Rattle.seat_turns.proofs.swapping.turn_gone.Goals as goal

pub turn-requires-after_bounds : goal.turn-requires-after_bounds
turn-requires-after_bounds g c κs within =
    may_turn_comer c.args.state.now c.args.seat c.requires.free c.run_law.ensures.formed c.run_law.ensures.run c.in-Some.q c.in-Some.ensures.there c.in-Some.ensures.coming
    (sym c.busy.ensures ∙ c.if-busy.false) (sym c.has_come.ensures ∙ c.if-has_come.false)

pub turn-requires-in-None-after_bounds : goal.turn-requires-in-None-after_bounds
turn-requires-in-None-after_bounds g c κs within =
    may_turn_gone c.args.state.now c.args.seat c.requires.free c.run_law.ensures.formed c.run_law.ensures.run c.args.p
    (c.turns_are_legal.ensures.gone (c.args.state.now).config (c.args.state.now).past (c.args.seat).0 (c.args.p).0
    (may_work c.args.state.now c.args.seat c.requires.free c.run_law.ensures.formed c.run_law.ensures.run) c.requires.process c.requires.gone (sym c.in-None.ensures.found))

pub returns-then-busy-clause-worked : goal.returns-then-busy-clause-worked
returns-then-busy-clause-worked g c = nothing_worked c.args.state.now c.args.seat c.requires.free (empty c.args.seat) refl

pub returns-then-has_come-clause-worked : goal.returns-then-has_come-clause-worked
returns-then-has_come-clause-worked g c = nothing_worked c.args.state.now c.args.seat c.requires.free (empty c.args.seat) refl

pub returns-else-has_come-clause-worked : goal.returns-else-has_come-clause-worked
returns-else-has_come-clause-worked g c = turn_worked c.args.state.now c.turn.new.self c.args.seat c.requires.free c.in-Some.q status.Leaving c.turn.ensures

pub returns-in-None-clause-worked : goal.returns-in-None-clause-worked
returns-in-None-clause-worked g c = turn_worked c.args.state.now c.turn-in-None.new.self c.args.seat c.requires.free c.args.p status.Coming c.turn-in-None.ensures

pub returns-then-busy-clause-step : goal.returns-then-busy-clause-step
returns-then-busy-clause-step g c = λ request waits. no_step c.args.state.now c.args.state.now (c.args.seat).0 request refl

pub returns-then-has_come-clause-step : goal.returns-then-has_come-clause-step
returns-then-has_come-clause-step g c = λ request waits. no_step c.args.state.now c.args.state.now (c.args.seat).0 request refl

pub returns-else-has_come-clause-step : goal.returns-else-has_come-clause-step
returns-else-has_come-clause-step g c = λ request waits.
    barred_step c.args.state.now c.args.seat c.args.p request waits c.turn.new.self c.in-Some.q c.requires.gone c.in-Some.ensures.found c.in-Some.ensures.coming
    (sym c.busy.ensures ∙ c.if-busy.false) (sym c.has_come.ensures ∙ c.if-has_come.false) c.turn.ensures

pub returns-in-None-clause-step : goal.returns-in-None-clause-step
returns-in-None-clause-step g c = λ request waits.
    begun_step c.args.state.now c.args.seat c.args.p request waits c.turn-in-None.new.self c.requires.gone c.in-None.ensures.found c.turn-in-None.ensures
