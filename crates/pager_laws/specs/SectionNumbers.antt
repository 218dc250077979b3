-- The numbers of section pages. Source: Kenah and Bate, "VAX/VMS Internals and Data Structures", the global page
-- table; that all sections share one numbering is this project's own.
use Rattle.std.specs.Prelude.{ℕ, ◌+◌, take, sum_by}
use Rattle.vm_types.specs.Configuration.{section_pages}
use Rattle.vm_types.specs.declared.config.Config.{Config}

-- section pages are numbered through all sections, in order
abbrev pub section_page_number : Config → ℕ → ℕ → ℕ
section_page_number config s i = sum_by section_pages (take s config.sections) + i
