use Rattle.std.proofs.Common.{◌≤◌, length, subst}
use Rattle.vm_types.specs.Configuration.{IsWellFormed}
use Rattle.pager_model.specs.Spoken.{spoken}
use Rattle.pager_model.specs.Run.{IsRun}
use Rattle.history_lock.specs.Passes.{view}
use Rattle.history_lock.specs.Values.{value_of}
use Rattle.vm_state.specs.History.{History}
use Rattle.vm_actors.proofs.SeenTurns.{adds_none, same_base, seen_answered, seen_landed, seen_none}
use Rattle.vm_actors.proofs.looking.look_answered.Goals as goal

pub leave-requires-clause-base : goal.leave-requires-clause-base
leave-requires-clause-base g c = same_base (value_of c.enter-turn.result) (view c.args.pass.now) (view c.enter-turn.new.pass) c.enter-turn.ensures.known c.enter-turn.ensures.seen c.enter-turn.ensures.base

pub leave-requires-clause-adds : goal.leave-requires-clause-adds
leave-requires-clause-adds g c = adds_none (value_of c.enter-turn.result) (view c.args.pass.now) (view c.enter-turn.new.pass) c.enter-turn.ensures.known c.enter-turn.ensures.seen

pub returns-clause-none : goal.returns-clause-none
returns-clause-none g c = seen_none (value_of c.enter-turn.result) (view c.args.pass.now) c.enter-turn.ensures.known _ c.leave.ensures.seen

pub returns-clause-landed : goal.returns-clause-landed
returns-clause-landed g c =
    seen_landed (value_of c.enter-turn.result) (view c.args.pass.now) c.enter-turn.ensures.known _ c.leave.ensures.seen _ c.requires.knows
    (subst (λ (x : History). IsWellFormed x.config) c.value-state.ensures c.run_law.ensures.formed) (subst (λ (x : History). IsRun x.config x.past) c.value-state.ensures c.run_law.ensures.run) c.requires.landed

pub returns-clause-answered : goal.returns-clause-answered
returns-clause-answered g c =
    λ is. seen_answered (value_of c.enter-turn.result) (view c.args.pass.now) c.enter-turn.ensures.known _ c.leave.ensures.seen _ c.requires.knows
    (subst (λ (x : History). length x.config.body ≤ spoken x.past) c.value-state.ensures (c.are_answered-all.ensures is))
