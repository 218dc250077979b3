use Rattle.std.proofs.Common.{◌≡◌, ◌++◌, drop, filter}
use Rattle.pager_model.specs.DirtyPages.{is_dirty, pages_from}
use Rattle.vm_state.specs.History.{pager}
use Rattle.rundown.proofs.dirty.dirty_pages.Given as goal

-- those that were added, and those of the sections from this one on, are all
abbrev pub invariant-loop-s : goal.invariant-loop-s
invariant-loop-s g l =
    l.pages.items ++ filter (is_dirty l.state.config (pager l.state)) (pages_from l.s (drop l.s l.state.config.sections))
    ≡ filter (is_dirty l.state.config (pager l.state)) (pages_from 0 l.state.config.sections)
