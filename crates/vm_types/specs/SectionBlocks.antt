-- How many section blocks a section has. This project's own: one for each page, and none in the page file.
use Rattle.std.specs.Prelude.{ℕ, if◌then◌else◌}
use Rattle.vm_types.specs.Configuration.{section_pages}
use Rattle.vm_types.specs.Kinds.{is_paged_kind}
use Rattle.vm_types.specs.declared.config.Section.{Section}

abbrev pub section_block_count : Section → ℕ
section_block_count section = if is_paged_kind section.kind then 0 else section_pages section
