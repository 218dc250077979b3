-- Between two turns the pass is idle, no request was answered by its numbers, and it is known whether they have new
-- entries.
use Rattle.std.proofs.Common.{◌≡◌, false, true, reverse}
use Rattle.history_lock.specs.Passes.{IsIdle, IsSameLock, base_of as base_seen, numbers, seen}
use Rattle.vm_actors.specs.Between.{IsBetweenTurns, NoOtherOpen}
use Rattle.vm_actors.specs.InTurns.{MadeInTurns}
use Rattle.vm_actors.specs.OwnEntries.{GoesOnSilently, MadeNone, MadeSome}
use Rattle.vm_actors.proofs.idle_turns.work_once.Given as goal

abbrev pub invariant-loop : goal.invariant-loop
invariant-loop g l = record {
  same : IsSameLock l.initial.pass l.pass;
  idle : IsIdle l.pass;
  base : base_seen l.pass ≡ base_seen l.initial.pass;
  owns : numbers l.pass ≡ numbers l.initial.pass;
  more : GoesOnSilently (numbers l.initial.pass) (seen l.initial.pass) (seen l.pass);
  none : l.made ≡ false → MadeNone (numbers l.initial.pass) (seen l.initial.pass) (seen l.pass);
  some : l.made ≡ true → MadeSome (numbers l.initial.pass) (seen l.initial.pass) (seen l.pass);
  turns : MadeInTurns (base_seen l.initial.pass) l.seat.0 (seen l.initial.pass) (seen l.pass);
  others : NoOtherOpen (numbers l.initial.pass) l.seat.0 (reverse (seen l.pass));
  between : IsBetweenTurns g.B.Block.seen g.B.Block.tells (base_seen l.pass) (reverse (seen l.pass)) l.seat l.carrier;
}
