-- What can be printed. Source: this project's own.
use Rattle.std.specs.Prelude.{ℕ, ◌<◌, List}
use Rattle.vm_types.specs.declared.config.Section.{Section}
use Rattle.vm_text.specs.Named.{IsPrintablePage}
use Rattle.vm_journal.specs.declared.entry.Role.{Role}
use Rattle.vm_journal.specs.declared.entry.Role.TheVariants.{Fault, Near, Come}

-- a role that can be printed: its process has a letter, or its page can be printed
abbrev pub IsPrintableRole : List Section → Role → Type 0
IsPrintableRole names (Fault p a) = p.0 < 16
IsPrintableRole names (Near page) = IsPrintablePage names page
IsPrintableRole names (Come p a) = p.0 < 16
