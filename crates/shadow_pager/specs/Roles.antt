-- The process of a read's role. This project's own.
use Rattle.std.specs.Prelude.{ℕ, ◌<◌}
use Rattle.vm_journal.specs.declared.entry.Role.{Role}
use Rattle.vm_journal.specs.declared.entry.Role.TheVariants as role

-- the process that the role names, if it names one, is one of so many
abbrev pub IsOfProcess : ℕ → Role → Type 0
IsOfProcess processes (role.Fault q address) = q.0 < processes
IsOfProcess processes (role.Near g) = Unit {0}
IsOfProcess processes (role.Come q address) = q.0 < processes
