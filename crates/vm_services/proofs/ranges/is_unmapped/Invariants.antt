use Rattle.std.proofs.Common.{◌≡◌, ◌+◌, ◌-◌, ◌/◌}
use Rattle.std.specs.List.{list_any, range_with_len}
use Rattle.vm_types.specs.declared.limits.TheConstants.{PAGE_BYTES}
use Rattle.pager_model.specs.Forget.{range_of}
use Rattle.pager_model.specs.MappedRanges.{is_unmapped_at}
use Rattle.vm_state.specs.History.{pager}
use Rattle.vm_services.proofs.ranges.is_unmapped.Given as goal

-- it stands on the pages that are left
abbrev pub invariant-loop-n : goal.invariant-loop-n
invariant-loop-n g l =
    list_any (is_unmapped_at (pager l.state) l.p.0) (range_of l.fn.at.0 l.fn.pages) ≡ list_any (is_unmapped_at (pager l.state) l.p.0) (range_with_len (l.fn.at.0 / PAGE_BYTES + l.n) (l.fn.pages - l.n))
