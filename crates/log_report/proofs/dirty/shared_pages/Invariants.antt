use Rattle.std.proofs.Common.{◌≡◌, ◌++◌, drop}
use Rattle.pager_model.specs.DirtyPages.{pages_from}
use Rattle.log_report.proofs.dirty.shared_pages.Given as goal

-- those that were added, and those of the sections from this one on, are all
abbrev pub invariant-loop-s : goal.invariant-loop-s
invariant-loop-s l = l.pages.items ++ pages_from l.s (drop l.s l.sections) ≡ pages_from 0 l.sections
