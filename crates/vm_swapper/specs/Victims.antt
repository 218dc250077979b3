-- Which process may leave memory. Source: Kenah and Bate, "VAX/VMS Internals and Data Structures", the swapper, the
-- choice of a process to swap out; the order is this project's own.
use Rattle.std.specs.Prelude.{ℕ, Bool, ◌&&◌, List, Option, not}
use Rattle.vm_types.specs.declared.names.Proc.{Proc}
use Rattle.vm_journal.specs.declared.entry.Entry.{Entry}
use Rattle.vm_types.specs.Status.{is_coming, is_resident}
use Rattle.pager_model.specs.Pager.{Pager}
use Rattle.pager_policy.specs.Swap.{is_but, may_leave}

abbrev pub process_number : Proc → ℕ
process_number p = p.0

-- whether it is another process than this one, may leave, and is resident
abbrev pub leaves_resident : List Entry → Pager → Option ℕ → ℕ → Bool
leaves_resident past a but q = not (is_but but q) && (may_leave past a q && is_resident (a.status q))

-- the same of one that is coming
abbrev pub leaves_coming : List Entry → Pager → Option ℕ → ℕ → Bool
leaves_coming past a but q = not (is_but but q) && (may_leave past a q && is_coming (a.status q))
