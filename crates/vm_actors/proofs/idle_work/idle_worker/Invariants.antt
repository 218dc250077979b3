-- Between two looks the pass is idle, no request was answered by its numbers, and nothing is open.
use Rattle.std.proofs.Common.{◌≡◌}
use Rattle.history_lock.specs.Passes.{IsIdle, IsSameLock, base_of as base_seen, numbers, seen}
use Rattle.vm_actors.specs.Between.{NoneOpen}
use Rattle.vm_actors.specs.InTurns.{MadeInTurns}
use Rattle.vm_actors.specs.OwnEntries.{GoesOnSilently}
use Rattle.vm_actors.proofs.idle_work.idle_worker.Given as goal

abbrev pub invariant-loop : goal.invariant-loop
invariant-loop g l = record {
  same : IsSameLock l.fn.pass l.pass;
  idle : IsIdle l.pass;
  base : base_seen l.pass ≡ base_seen l.fn.pass;
  owns : numbers l.pass ≡ numbers l.fn.pass;
  more : GoesOnSilently (numbers l.fn.pass) (seen l.fn.pass) (seen l.pass);
  turns : MadeInTurns (base_seen l.fn.pass) (l.fn.carrier.seat).0 (seen l.fn.pass) (seen l.pass);
  landed : NoneOpen (numbers l.fn.pass) (seen l.pass);
  carrier : l.carrier ≡ l.fn.carrier;
}
