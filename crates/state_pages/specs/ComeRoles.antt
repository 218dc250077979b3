-- The reads that bring back a page of a process, by their roles. This project's own.
use Rattle.std.specs.Prelude.{ℕ, Bool, false, Option, Some, None}
use Rattle.vm_journal.specs.declared.entry.Role.{Role}
use Rattle.pager_model.specs.Transfers.{is_come_role}

abbrev pub comes : ℕ → Option Role → Bool
comes p None = false
comes p (Some role) = is_come_role p role
