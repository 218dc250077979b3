use Rattle.std.proofs.Common.{◌≡◌, sym, subst}
use Rattle.shadow_tables.specs.PageTables.{item_of}
use Rattle.shadow_tables.proofs.page_table.PageTable.at.Goals as goal

pub returns-in-Private : goal.returns-in-Private
unfolding item_of
returns-in-Private g c = rw (← c.self.view_is, c.in-Private.is) c.own_at.ensures

pub returns-in-Shared : goal.returns-in-Shared
unfolding item_of
returns-in-Shared g c = rw (← c.self.view_is, c.in-Shared.is, ← c.deref.ensures.value) c.section_at.ensures
