use Rattle.std.proofs.Common.{◌≡◌, take}
use Rattle.dump_laws.proofs.Entries.{pages_in}
use Rattle.vm_state.specs.History.{pager}
use Rattle.state_dump.proofs.pages.pages_of.Given as goal

abbrev pub invariant-loop-n : goal.invariant-loop-n
invariant-loop-n g l = l.pages.items ≡ pages_in (take l.n ((pager l.state).ring (l.p).0).slots)
