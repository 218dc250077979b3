-- What is known of a value by what the pass has seen now is known of it by what the pass had seen.
use Rattle.std.proofs.Common.{◌≡◌}
use Rattle.history_lock.specs.Known.{Known}
use Rattle.history_lock.specs.Passes.{IsIdle, IsSameLock, base_of as base_seen, numbers, view}
use Rattle.vm_state.specs.Based.{base_of, kept_entries}
use Rattle.vm_state.specs.History.{History}
use Rattle.vm_actors.proofs.entering.enter_calm.Given as goal

abbrev pub invariant-loop : goal.invariant-loop
invariant-loop g l = record {
  same : IsSameLock l.initial.pass l.pass;
  idle : IsIdle l.pass;
  base : base_seen l.pass ≡ base_seen l.initial.pass;
  owns : numbers l.pass ≡ numbers l.initial.pass;
  known : (x : History) → Known kept_entries base_of x (view l.pass) → Known kept_entries base_of x (view l.initial.pass);
}
