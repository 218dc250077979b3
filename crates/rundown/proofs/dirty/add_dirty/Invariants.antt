use Rattle.std.proofs.Common.{◌≡◌, ◌++◌, filter, map}
use Rattle.std.specs.List.{range_with_len}
use Rattle.vm_types.specs.declared.names.Page.TheVariants.{Shared}
use Rattle.pager_model.specs.DirtyPages.{is_dirty}
use Rattle.vm_state.specs.History.{pager}
use Rattle.rundown.proofs.dirty.add_dirty.Given as goal

-- the dirty pages before this one were added
abbrev pub invariant-loop-i : goal.invariant-loop-i
invariant-loop-i g l = l.pages.items ≡ l.initial.pages.items ++ filter (is_dirty l.state.config (pager l.state)) (map (Shared l.s) (range_with_len 0 l.i))
