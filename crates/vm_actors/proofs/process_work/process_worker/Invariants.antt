-- The requests before this one were answered, and nothing is open.
use Rattle.std.proofs.Common.{◌≡◌, ◌⊎◌, ◌++◌, reverse, take}
use Rattle.history_lock.specs.Passes.{IsIdle, IsSameLock, base_of as base_seen, numbers, seen}
use Rattle.pager_model.specs.Order.{answered}
use Rattle.call_begins.specs.MayBegin.{empty}
use Rattle.seat_turns.specs.Steps.{seat_of}
use Rattle.vm_actors.specs.Between.{IsCalm, NoneOpen}
use Rattle.vm_actors.specs.InTurns.{AreLeft, MadeInTurns}
use Rattle.vm_actors.specs.Requests.{HasAnswered}
use Rattle.vm_actors.proofs.process_work.process_worker.Given as goal

abbrev pub invariant-loop-i : goal.invariant-loop-i
invariant-loop-i g l = record {
  same : IsSameLock l.fn.pass l.pass;
  idle : IsIdle l.pass;
  base : base_seen l.pass ≡ base_seen l.fn.pass;
  owns : numbers l.pass ≡ numbers l.fn.pass;
  calm : ((l.i ≡ 0) × (seen l.pass ≡ seen l.fn.pass)) ⊎ IsCalm (seen l.pass);
  landed : NoneOpen (numbers l.fn.pass) (seen l.pass);
  carrier : l.carrier ≡ empty (seat_of l.p);
  answers : answered (l.p).0 (reverse (seen l.pass)) ≡ answered (l.p).0 (reverse (seen l.fn.pass)) ++ take l.i l.work;
  turns : AreLeft (base_seen l.fn.pass) (l.p).0 l.work (seen l.fn.pass) → MadeInTurns (base_seen l.fn.pass) (l.p).0 (seen l.fn.pass) (seen l.pass);
  done : HasAnswered (numbers l.fn.pass) (seen l.fn.pass) (seen l.pass) (take l.i l.work);
}
