use Rattle.std.proofs.Common.{◌≡◌, ◌+◌, ◌-◌, ◌/◌}
use Rattle.std.specs.List.{list_any, range_with_len}
use Rattle.vm_types.specs.declared.limits.TheConstants.{PAGE_BYTES}
use Rattle.pager_model.specs.Forget.{range_of}
use Rattle.state_pages.specs.ServiceAnswers.{has_entry}
use Rattle.state_pages.proofs.service_answers.some_entry.Given as goal

-- it stands on the pages that are left
abbrev pub invariant-loop-n : goal.invariant-loop-n
invariant-loop-n l =
    list_any (has_entry l.tables l.p.0 l.mapped) (range_of l.fn.at.0 l.fn.pages) ≡ list_any (has_entry l.tables l.p.0 l.mapped) (range_with_len (l.fn.at.0 / PAGE_BYTES + l.n) (l.fn.pages - l.n))
