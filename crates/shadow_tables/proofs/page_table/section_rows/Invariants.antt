use Rattle.std.proofs.Common.{◌≡◌, map, take}
use Rattle.shadow_tables.specs.PageTables.{first_row}
use Rattle.shadow_tables.proofs.page_table.section_rows.Given as goal

abbrev pub invariant-loop-section : goal.invariant-loop-section
invariant-loop-section g l = l.rows.items ≡ map first_row (take l.section-index l.sections)
