use Rattle.std.proofs.Common.{◌≡◌, ◌++◌, map}
use Rattle.std.specs.List.{range_with_len}
use Rattle.vm_types.specs.declared.names.Page.TheVariants.{Shared}
use Rattle.log_report.proofs.dirty.add_pages.Given as goal

-- the pages before this one were added
abbrev pub invariant-loop-i : goal.invariant-loop-i
invariant-loop-i l = l.pages.items ≡ l.initial.pages.items ++ map (Shared l.s) (range_with_len 0 l.i)
