use Rattle.std.proofs.Common.{◌∙◌, refl}
use Rattle.history_lock.specs.Passes.{view}
use Rattle.history_lock.specs.Values.{value_of}
use Rattle.vm_actors.proofs.SeenTurns.{adds_none, same_base}
use Rattle.vm_actors.proofs.TakenTurns.{calm_here, known_then}
use Rattle.vm_actors.proofs.entering.enter_calm.Goals as goal

pub leave-requires-clause-base : goal.leave-requires-clause-base
leave-requires-clause-base g c = same_base (value_of c.enter-turn.result) (view c.loop.pass) (view c.enter-turn.new.pass) c.enter-turn.ensures.known c.enter-turn.ensures.seen c.enter-turn.ensures.base

pub leave-requires-clause-adds : goal.leave-requires-clause-adds
leave-requires-clause-adds g c = adds_none (value_of c.enter-turn.result) (view c.loop.pass) (view c.enter-turn.new.pass) c.enter-turn.ensures.known c.enter-turn.ensures.seen

pub loop-preserved : goal.loop-preserved
loop-preserved g c = record {
  same = c.leave.ensures.same ∙ (c.enter-turn.ensures.same ∙ c.loop.invariant.same);
  idle = c.leave.ensures.idle;
  base = c.leave.ensures.base ∙ (c.enter-turn.ensures.base ∙ c.loop.invariant.base);
  owns = c.leave.ensures.numbers ∙ (c.enter-turn.ensures.numbers ∙ c.loop.invariant.owns);
  known = λ x k.
      c.loop.invariant.known x
      (known_then (value_of c.enter-turn.result) x (view c.loop.pass) (view c.leave.new.pass) c.enter-turn.ensures.known c.leave.ensures.seen (c.leave.ensures.numbers ∙ c.enter-turn.ensures.numbers) (c.leave.ensures.base ∙ c.enter-turn.ensures.base) k);
}

pub loop-init : goal.loop-init
loop-init g c = record { same = refl; idle = c.requires.idle; base = refl; owns = refl; known = λ x known. known }

pub returns-then-is_calm-clause-known : goal.returns-then-is_calm-clause-known
returns-then-is_calm-clause-known g c = c.loop.invariant.known (value_of c.enter-turn.result) c.enter-turn.ensures.known

pub returns-then-is_calm-clause-calm : goal.returns-then-is_calm-clause-calm
returns-then-is_calm-clause-calm g c = calm_here c.value.result.now (value_of c.enter-turn.result) c.is_calm.result c.value.ensures c.is_calm.ensures c.if-is_calm.true
