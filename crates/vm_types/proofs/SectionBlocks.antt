-- A section has at most as many section blocks as pages.
use Rattle.std.proofs.Common.{ℕ, ◌≤◌, Bool, true, false, cond, arith}
use Rattle.vm_types.specs.Configuration.{section_pages}
use Rattle.vm_types.specs.Kinds.{is_paged_kind}
use Rattle.vm_types.specs.SectionBlocks.{section_block_count}
use Rattle.vm_types.specs.declared.config.Section.{Section}

pub few_blocks : (section : Section) → section_block_count section ≤ section_pages section
few_blocks section = by (is_paged_kind section.kind)
  where
    by : (b : Bool) → cond b 0 (section_pages section) ≤ section_pages section
    by true = omega arith
    by false = omega arith
