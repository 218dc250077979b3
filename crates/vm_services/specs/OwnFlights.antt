-- The transfer of a private page that a process has at a page number. This project's own.
use Rattle.std.specs.Prelude.{ℕ, Bool, List, []}
use Rattle.std.specs.List.{list_any}
use Rattle.vm_types.specs.declared.config.Config.{Config}
use Rattle.vm_journal.specs.declared.entry.Entry.{Entry}
use Rattle.pager_model.specs.Forget.{with_private}
use Rattle.pager_model.specs.Lookups.{page_by}
use Rattle.pager_model.specs.Pager.{Pager}
use Rattle.pager_policy.specs.Serve.{is_page_in_flight}

-- whether the process has a private page there that is in a frame with an open flight
abbrev pub is_own_in_flight : Config → List Entry → Pager → ℕ → ℕ → Bool
is_own_in_flight config past a p v = list_any (is_page_in_flight config past a) (with_private (page_by config a.map p v) [])
