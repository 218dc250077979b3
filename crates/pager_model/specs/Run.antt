-- Runs: the state that a journal leads to, and that each of its entries was legal there. A journal's past
-- is its list of entries, the newest first. This project's own.
use Rattle.std.specs.Prelude.{List, [], ◌∷◌}
use Rattle.vm_types.specs.declared.config.Config.{Config}
use Rattle.vm_journal.specs.declared.entry.Entry.{Entry}
use Rattle.pager_model.specs.Opening.{opening}
use Rattle.pager_model.specs.Pager.{Pager}
use Rattle.pager_model.specs.Step.{IsLegal, after}

-- the state after a past, from the opening state on
abbrev pub pager_after : Config → List Entry → Pager
pager_after config [] = opening config
pager_after config (e ∷ past) = after config past (pager_after config past) e

-- each entry of the past was legal in the state that those before it led to
abbrev pub IsRun : Config → List Entry → Type 0
IsRun config [] = Unit {0}
IsRun config (e ∷ past) = IsRun config past × IsLegal config past (pager_after config past) e
