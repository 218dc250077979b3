use Rattle.std.proofs.Common.{◌≡◌, ◌+◌, ◌-◌, ◌/◌, find}
use Rattle.std.specs.List.{range_with_len}
use Rattle.vm_types.specs.declared.limits.TheConstants.{PAGE_BYTES}
use Rattle.pager_model.specs.Forget.{range_of}
use Rattle.pager_policy.specs.Serve.{is_valid_at}
use Rattle.vm_state.specs.History.{pager}
use Rattle.vm_services.proofs.ranges.valid_in.Given as goal

-- it is one of the pages that are left
abbrev pub invariant-loop-n : goal.invariant-loop-n
invariant-loop-n g l =
    find (is_valid_at (pager l.state) l.p.0) (range_of l.fn.at.0 l.fn.pages) ≡ find (is_valid_at (pager l.state) l.p.0) (range_with_len (l.fn.at.0 / PAGE_BYTES + l.n) (l.fn.pages - l.n))
