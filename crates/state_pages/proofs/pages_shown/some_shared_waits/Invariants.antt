use Rattle.std.proofs.Common.{◌<◌, ℕ}
use Rattle.state_pages.specs.PagesShown.{NoneShared}
use Rattle.state_pages.proofs.pages_shown.some_shared_waits.Given as goal

-- no page of a section before this one waits
abbrev pub invariant-loop-s : goal.invariant-loop-s
invariant-loop-s l = (t : ℕ) → t < l.s → NoneShared l.pages l.sections t
