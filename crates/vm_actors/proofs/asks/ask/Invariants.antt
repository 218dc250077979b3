-- Between two turns the pass is idle, and no request was answered by its numbers.
use Rattle.std.proofs.Common.{◌≡◌, [], reverse}
use Rattle.history_lock.specs.Passes.{IsIdle, IsSameLock, base_of as base_seen, numbers, seen}
use Rattle.seat_turns.specs.Begun.{IsBegunFor}
use Rattle.seat_turns.specs.Steps.{seat_of}
use Rattle.vm_actors.specs.Between.{IsBetweenTurns, NoOtherOpen}
use Rattle.vm_actors.specs.InTurns.{IsNext, MadeInTurns}
use Rattle.vm_actors.specs.OwnEntries.{GoesOnSilently}
use Rattle.vm_actors.proofs.asks.ask.Given as goal

abbrev pub invariant-loop : goal.invariant-loop
invariant-loop g l = record {
  same : IsSameLock l.initial.pass l.pass;
  idle : IsIdle l.pass;
  base : base_seen l.pass ≡ base_seen l.initial.pass;
  owns : numbers l.pass ≡ numbers l.initial.pass;
  more : GoesOnSilently (numbers l.initial.pass) (seen l.initial.pass) (seen l.pass);
  turns : IsNext (base_seen l.initial.pass) (l.fn.p).0 l.fn.x (seen l.initial.pass) → MadeInTurns (base_seen l.initial.pass) (l.fn.p).0 (seen l.initial.pass) (seen l.pass);
  others : NoOtherOpen (numbers l.initial.pass) (l.fn.p).0 (reverse (seen l.pass));
  between : IsBetweenTurns g.B.Block.seen g.B.Block.tells (base_seen l.pass) (reverse (seen l.pass)) (seat_of l.fn.p) l.carrier;
  begun : (l.carrier.lifts ≡ [] → ⊥) → IsBegunFor (reverse (seen l.pass)) (l.fn.p).0 l.fn.x l.reading;
}
