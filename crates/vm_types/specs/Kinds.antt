-- Kinds of sections: which are shared, and which are in the page file. Source: Kenah and Bate, "VAX/VMS
-- Internals and Data Structures", global sections, copy on reference sections and page file sections; that a
-- page file section is shared is this project's own.
use Rattle.std.specs.Prelude.{Bool, true, false, Option, Some, None}
use Rattle.vm_types.specs.declared.config.Section.{Section}
use Rattle.vm_types.specs.declared.config.SectionKind.{SectionKind}
use Rattle.vm_types.specs.declared.config.SectionKind.TheVariants as kind

-- its processes have the same pages
abbrev pub is_shared_kind : SectionKind → Bool
is_shared_kind kind.Shared = true
is_shared_kind kind.Crf = false
is_shared_kind kind.Paged = true

-- its pages have blocks of the page file, and no file
abbrev pub is_paged_kind : SectionKind → Bool
is_paged_kind kind.Shared = false
is_paged_kind kind.Crf = false
is_paged_kind kind.Paged = true

abbrev pub shared_of : Option Section → Bool
shared_of None = false
shared_of (Some section) = is_shared_kind section.kind

abbrev pub paged_of : Option Section → Bool
paged_of None = false
paged_of (Some section) = is_paged_kind section.kind
