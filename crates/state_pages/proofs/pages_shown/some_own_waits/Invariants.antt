use Rattle.std.proofs.Common.{◌<◌, ℕ}
use Rattle.state_pages.specs.PagesShown.{NoneWaits}
use Rattle.state_pages.proofs.pages_shown.some_own_waits.Given as goal

-- no page of a process before this one waits
abbrev pub invariant-loop-p : goal.invariant-loop-p
invariant-loop-p l = (q : ℕ) → q < l.p → NoneWaits l.pages q
