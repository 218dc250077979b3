-- The requests of the tasks before this one.
use Rattle.std.proofs.Common.{◌≡◌, take}
use Rattle.pager_model.specs.Order.{requests_of}
use Rattle.replay_run.proofs.works.work_of.Given as goal

abbrev pub invariant-loop-i : goal.invariant-loop-i
invariant-loop-i l = record { made : l.requests.items ≡ requests_of l.k (take l.i l.body) }
