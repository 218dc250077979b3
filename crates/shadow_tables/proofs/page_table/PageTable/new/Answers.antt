use Rattle.std.proofs.Common.{ap₂, ◌∙◌}
use Rattle.shadow_tables.specs.PageTables.{item_of}
use Rattle.shadow_tables.proofs.PageTables.{no_items}
use Rattle.shadow_tables.proofs.page_table.PageTable.new.Goals as goal

pub returns : goal.returns
returns g c = λ page. ap₂ (λ own rows. item_of (own, rows) page) c.in_ok-own.ensures c.in_ok-sections.ensures ∙ no_items _ _ page
