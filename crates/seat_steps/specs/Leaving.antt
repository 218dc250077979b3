-- Which process goes on to leave in a run by threads. This project's own.
use Rattle.std.specs.Prelude.{ℕ, Bool, ◌&&◌, Option, find, length, not}
use Rattle.std.specs.List.{range_with_len}
use Rattle.vm_types.specs.declared.config.Config.{Config}
use Rattle.vm_types.specs.Status.{is_leaving}
use Rattle.pager_model.specs.Pager.{Pager}
use Rattle.pager_policy.specs.Swap.{is_but}

-- a process that is leaving, and another one than this
abbrev pub is_other_leaving : Pager → Option ℕ → ℕ → Bool
is_other_leaving a but q = not (is_but but q) && is_leaving (a.status q)

-- the lowest of them
abbrev pub lowest_leaving : Config → Pager → Option ℕ → Option ℕ
lowest_leaving config a but = find (is_other_leaving a but) (range_with_len 0 (length config.procs))
