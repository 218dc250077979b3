-- Entries that a seat makes one after another have their causes. This project's own.
use Rattle.std.specs.Prelude.{ℕ, List, [], ◌∷◌}
use Rattle.vm_types.specs.declared.config.Config.{Config}
use Rattle.vm_journal.specs.declared.entry.Entry.{Entry}
use Rattle.vm_journal.specs.declared.entry.What.{What}
use Rattle.pager_model.specs.Run.{pager_after}
use Rattle.pager_policy.specs.Given.{by_seat}
use Rattle.entry_causes.specs.Caused.{IsCaused}

-- each has its cause after those before it
abbrev pub AreCaused : Config → List Entry → ℕ → List What → Type 0
AreCaused config past seat [] = Unit {0}
AreCaused config past seat (w ∷ ws) = IsCaused config past (pager_after config past) (by_seat seat w) × AreCaused config (by_seat seat w ∷ past) seat ws
