use Rattle.std.proofs.Common.{◌∙◌, ◌≡◌, true, subst}
use Rattle.vm_types.specs.Configuration.{IsWellFormed}
use Rattle.pager_model.specs.Run.{IsRun}
use Rattle.pager_model.specs.Spoken.{IsRight}
use Rattle.history_lock.specs.Passes.{seen, view}
use Rattle.history_lock.specs.Values.{value_of}
use Rattle.vm_state.specs.History.{History}
use Rattle.vm_actors.proofs.Ending.{staged_none}
use Rattle.vm_actors.proofs.InTurns.{turn_made}
use Rattle.vm_actors.proofs.TakenTurns.{adds, all_carried, base_left, begun_left, between_left, calm_left, found_begun, found_out, keeps, legal_left, made_none, made_some, others_left_open, past_left, rests_left, taken, there}
use Rattle.vm_actors.proofs.turns.take_turn.Goals as goal

pub step-taken-requires-clause-may : goal.step-taken-requires-clause-may
step-taken-requires-clause-may g c κs within =
    there (value_of c.enter_calm-turn.result) (view c.args.pass.now) c.enter_calm-turn.ensures.known _ c.requires.knows

pub step-taken-requires-clause-out : goal.step-taken-requires-clause-out
step-taken-requires-clause-out g c κs within =
    found_out (value_of c.enter_calm-turn.result) (view c.args.pass.now) c.enter_calm-turn.ensures.known _ c.requires.knows c.args.seat c.args.carrier.now
    (subst (λ (x : History). IsWellFormed x.config) c.value.ensures c.run_law.ensures.formed) (subst (λ (x : History). IsRun x.config x.past) c.value.ensures c.run_law.ensures.run) c.requires.number c.requires.between

pub step-taken-requires-clause-carried : goal.step-taken-requires-clause-carried
step-taken-requires-clause-carried g c κs within = all_carried g.B.Block.seen g.B.Block.tells _ _ _ c.args.carrier.now c.requires.between

pub step-taken-requires-clause-begun : goal.step-taken-requires-clause-begun
step-taken-requires-clause-begun g c κs within =
    λ some. found_begun (value_of c.enter_calm-turn.result) (view c.args.pass.now) c.enter_calm-turn.ensures.known _ c.requires.knows c.args.seat c.args.doing c.args.reading
    (subst (λ (x : History). IsRun x.config x.past) c.value.ensures c.run_law.ensures.run) c.requires.number (c.requires.begun some)

pub leave-requires-clause-base : goal.leave-requires-clause-base
leave-requires-clause-base g c =
    base_left (value_of c.enter_calm-turn.result) (view c.args.pass.now) c.enter_calm-turn.ensures.known
    (keeps (value_of c.enter_calm-turn.result) (view c.args.pass.now) c.enter_calm-turn.ensures.known _ c.requires.knows)
    c.args.seat c.requires.number (value_of c.step-taken.new.turn) _ _ c.step-taken.new.carrier c.step-taken.ensures.turned _ c.enter_calm-turn.ensures.base

pub leave-requires-clause-adds : goal.leave-requires-clause-adds
leave-requires-clause-adds g c =
    adds (value_of c.enter_calm-turn.result) (view c.args.pass.now) c.enter_calm-turn.ensures.known
    (keeps (value_of c.enter_calm-turn.result) (view c.args.pass.now) c.enter_calm-turn.ensures.known _ c.requires.knows)
    c.args.seat c.requires.number (value_of c.step-taken.new.turn) _ _ c.step-taken.new.carrier c.step-taken.ensures.turned
    (view c.enter_calm-turn.new.pass) c.enter_calm-turn.ensures.seen c.enter_calm-turn.ensures.numbers

pub returns-clause-taken : goal.returns-clause-taken
returns-clause-taken g c =
    taken (value_of c.enter_calm-turn.result) (view c.args.pass.now) c.enter_calm-turn.ensures.known
    (keeps (value_of c.enter_calm-turn.result) (view c.args.pass.now) c.enter_calm-turn.ensures.known _ c.requires.knows)
    c.args.seat c.requires.number (value_of c.step-taken.new.turn) _ _ c.step-taken.new.carrier c.step-taken.ensures.turned _ c.leave.ensures.seen

pub returns-clause-turns : goal.returns-clause-turns
returns-clause-turns g c =
    let kept = keeps (value_of c.enter_calm-turn.result) (view c.args.pass.now) c.enter_calm-turn.ensures.known _ c.requires.knows in
    let turned = c.step-taken.ensures.turned in
    turn_made (value_of c.enter_calm-turn.result) (view c.args.pass.now) c.enter_calm-turn.ensures.known kept c.args.seat c.requires.number c.args.doing
    (there (value_of c.enter_calm-turn.result) (view c.args.pass.now) c.enter_calm-turn.ensures.known _ c.requires.knows)
    (value_of c.step-taken.new.turn) turned.made turned.past c.step-taken.ensures.step (seen c.leave.new.pass)
    (past_left (value_of c.enter_calm-turn.result) (view c.args.pass.now) c.enter_calm-turn.ensures.known kept c.args.seat c.requires.number (value_of c.step-taken.new.turn) _ _ c.step-taken.new.carrier turned (seen c.leave.new.pass) c.leave.ensures.seen)

pub returns-clause-none : goal.returns-clause-none
returns-clause-none g c =
    λ is. made_none (value_of c.enter_calm-turn.result) (view c.args.pass.now) c.enter_calm-turn.ensures.known
    (keeps (value_of c.enter_calm-turn.result) (view c.args.pass.now) c.enter_calm-turn.ensures.known _ c.requires.knows)
    c.args.seat c.requires.number (value_of c.step-taken.new.turn) _ _ c.step-taken.new.carrier c.step-taken.ensures.turned (c.step-taken.ensures.none is) _ c.leave.ensures.seen

pub returns-clause-some : goal.returns-clause-some
returns-clause-some g c =
    λ is. made_some (value_of c.enter_calm-turn.result) (view c.args.pass.now) c.enter_calm-turn.ensures.known
    (keeps (value_of c.enter_calm-turn.result) (view c.args.pass.now) c.enter_calm-turn.ensures.known _ c.requires.knows)
    c.args.seat c.requires.number (value_of c.step-taken.new.turn) _ _ c.step-taken.new.carrier c.step-taken.ensures.turned (c.step-taken.ensures.some is) _ c.leave.ensures.seen

pub returns-clause-rests : goal.returns-clause-rests
returns-clause-rests g c =
    λ is. rests_left (value_of c.enter_calm-turn.result) (view c.args.pass.now) c.enter_calm-turn.ensures.known
    (keeps (value_of c.enter_calm-turn.result) (view c.args.pass.now) c.enter_calm-turn.ensures.known _ c.requires.knows)
    c.args.seat c.requires.number (value_of c.step-taken.new.turn) _ _ c.step-taken.new.carrier c.step-taken.ensures.turned c.args.doing (c.step-taken.ensures.rests is) _ c.leave.ensures.seen

pub returns-clause-between : goal.returns-clause-between
returns-clause-between g c =
    between_left (value_of c.enter_calm-turn.result) (view c.args.pass.now) c.enter_calm-turn.ensures.known
    (keeps (value_of c.enter_calm-turn.result) (view c.args.pass.now) c.enter_calm-turn.ensures.known _ c.requires.knows)
    c.args.seat c.requires.number (value_of c.step-taken.new.turn) _ _ c.step-taken.new.carrier c.step-taken.ensures.turned _ (c.leave.ensures.base ∙ c.enter_calm-turn.ensures.base) _ c.leave.ensures.seen
    c.carry_begun.new.carrier c.carry_begun.ensures.carried c.carry_begun.ensures.out

pub returns-clause-begun : goal.returns-clause-begun
returns-clause-begun g c =
    begun_left (value_of c.enter_calm-turn.result) (view c.args.pass.now) c.enter_calm-turn.ensures.known
    (keeps (value_of c.enter_calm-turn.result) (view c.args.pass.now) c.enter_calm-turn.ensures.known _ c.requires.knows)
    c.args.seat c.requires.number (value_of c.step-taken.new.turn) _ _ c.step-taken.new.carrier c.step-taken.ensures.turned _ c.leave.ensures.seen
    c.carry_begun.new.carrier c.carry_begun.ensures.none c.args.doing _ c.step-taken.ensures.begun

pub returns-clause-others : goal.returns-clause-others
returns-clause-others g c =
    others_left_open (value_of c.enter_calm-turn.result) (view c.args.pass.now) c.enter_calm-turn.ensures.known
    (keeps (value_of c.enter_calm-turn.result) (view c.args.pass.now) c.enter_calm-turn.ensures.known _ c.requires.knows)
    c.args.seat c.requires.number (value_of c.step-taken.new.turn) _ _ c.step-taken.new.carrier c.step-taken.ensures.turned
    (subst (λ (x : History). IsWellFormed x.config) c.value.ensures c.run_law.ensures.formed) (subst (λ (x : History). IsRun x.config x.past) c.value.ensures c.run_law.ensures.run)
    (subst (λ (x : History). IsRun x.config x.past) c.value-2.ensures c.run_law-2.ensures.run) c.requires.others _ c.leave.ensures.seen

pub returns-clause-calm : goal.returns-clause-calm
returns-clause-calm g c =
    calm_left (value_of c.enter_calm-turn.result) (view c.args.pass.now) c.enter_calm-turn.ensures.known
    (keeps (value_of c.enter_calm-turn.result) (view c.args.pass.now) c.enter_calm-turn.ensures.known _ c.requires.knows)
    c.args.seat c.requires.number (value_of c.step-taken.new.turn) _ _ c.step-taken.new.carrier c.step-taken.ensures.turned _ c.leave.ensures.seen

pub returns-clause-landed : goal.returns-clause-landed
returns-clause-landed g c = λ is. c.carry_begun.ensures.none (staged_none c.step-taken.result.turned (c.step-taken.new.carrier).lifts is c.step-taken.ensures.turned.staged)

pub returns-clause-legal : goal.returns-clause-legal
returns-clause-legal g c =
    legal_left (value_of c.enter_calm-turn.result) (view c.args.pass.now) c.enter_calm-turn.ensures.known
    (keeps (value_of c.enter_calm-turn.result) (view c.args.pass.now) c.enter_calm-turn.ensures.known _ c.requires.knows)
    c.args.seat c.requires.number (value_of c.step-taken.new.turn) _ _ c.step-taken.new.carrier c.step-taken.ensures.turned _
    (subst (λ (x : History). IsRun x.config x.past) c.value-2.ensures c.run_law-2.ensures.run) (subst (λ (x : History). g.B.Block.tells.content ≡ true → IsRight x.config x.past) c.value-2.ensures c.run_law-2.ensures.right) _ (c.leave.ensures.base ∙ c.enter_calm-turn.ensures.base) _ c.leave.ensures.seen
