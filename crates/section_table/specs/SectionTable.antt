-- What is behind the pages of the processes, and the section block of a page. Source: Kenah and Bate,
-- "VAX/VMS Internals and Data Structures", memory structures; that one file backs one section, which is
-- shared or copy on reference, and that a section in the page file has none, is this project's own.
use Rattle.std.specs.Prelude.{ℕ, Bool, true, false, ◌<◌, ◌&&◌, List, Option, Some, None, IsSome, nat_lt, slice_get, if◌then◌else◌}
use Rattle.vm_types.specs.Configuration.{section_pages}
use Rattle.vm_types.specs.PagePlaces.{item_at, region_place}
use Rattle.vm_types.specs.declared.config.Origin.{Origin}
use Rattle.vm_types.specs.declared.config.Origin.TheVariants as origin
use Rattle.vm_types.specs.declared.config.Section.{Section}
use Rattle.vm_types.specs.declared.config.SectionKind.{SectionKind}
use Rattle.vm_types.specs.declared.config.SectionKind.TheVariants as kind
use Rattle.vm_types.specs.declared.names.BlockId.{BlockId}
use Rattle.vm_types.specs.declared.names.BlockId.TheVariants as block
use Rattle.vm_types.specs.declared.names.Page.{Page}
use Rattle.vm_types.specs.declared.names.Page.TheVariants.{Private, Shared}
use Rattle.vm_types.specs.declared.names.SecId.{SecId}
use Rattle.section_table.specs.declared.part.Part.{Part}

-- how many processes there are, the sections' kinds and pages, and by the place of a page what is behind it
pub record SectionTable : Type 0 where
  pub procs : ℕ
  pub parts : List Part
  pub origins : List (Option Origin)

abbrev pub part_of : Section → Part
part_of section = record { kind = section.kind; pages = section_pages section }

-- what is behind a page of a process: none behind a page that isn't mapped
abbrev pub behind_of : SectionTable → ℕ → ℕ → Option Origin
behind_of table p v = item_at table.origins p v

-- whether shared pages of such a section lie in section blocks
abbrev pub backs_shared : SectionKind → Bool
backs_shared kind.Shared = true
backs_shared kind.Crf = false
backs_shared kind.Paged = false

-- whether a process's own pages over such a section have section blocks behind them
abbrev pub backs_private : SectionKind → Bool
backs_private kind.Shared = false
backs_private kind.Crf = true
backs_private kind.Paged = false

abbrev pub shared_block : Option Part → SecId → ℕ → Option BlockId
shared_block None s page = None
shared_block (Some part) s page = if backs_shared part.kind && nat_lt page part.pages then Some (block.Section s page) else None

abbrev pub private_block : Option Part → SecId → ℕ → Option BlockId
private_block None s page = None
private_block (Some part) s page = if backs_private part.kind then Some (block.Section s page) else None

-- the section block of a shared page
abbrev pub shared_home : List Part → SecId → ℕ → Option BlockId
shared_home parts s page = shared_block (slice_get parts s.0) s page

-- the section block behind a process's own page
abbrev pub private_home : List Part → Option Origin → Option BlockId
private_home parts None = None
private_home parts (Some origin.Zero) = None
private_home parts (Some (origin.Section s page)) = private_block (slice_get parts s.0) s page

-- the section block of a page, if it has one
abbrev pub home_of : SectionTable → Page → Option BlockId
home_of table (Private p v) = private_home table.parts (behind_of table p.0 v)
home_of table (Shared s page) = shared_home table.parts s page

-- the process is one of the table's, and the page one that may be mapped
pub record HasPage (table : SectionTable) (p v : ℕ) : Type 0 where
  pub proc : p < table.procs
  pub page : IsSome (region_place v)
