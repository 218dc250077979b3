use Rattle.std.proofs.Common.{◌≡◌, take, map}
use Rattle.state_parts.specs.ChargedTable.{first_rows}
use Rattle.state_parts.proofs.charged_pages.section_rows.Given as goal

-- the rows of each section before this one
abbrev pub invariant-loop-section : goal.invariant-loop-section
invariant-loop-section l = l.rows.items ≡ map first_rows (take l.section-index l.sections)
