-- What is behind a page of a process. This project's own: one file backs one section, which is shared or
-- copy on reference; a section in the page file is shared, and has no file.
use Rattle.std.specs.Prelude.{ℕ, Bool, true, false, ◌*◌, List, Option, Some, None, find, slice_get, replicate, take, drop, if◌then◌else◌}
use Rattle.std.specs.Option.{option_map}
use Rattle.vm_types.specs.declared.limits.TheConstants.{PAGE_BYTES}
use Rattle.vm_types.specs.declared.names.Proc.{Proc}
use Rattle.vm_types.specs.declared.names.Page.{Page}
use Rattle.vm_types.specs.declared.names.Page.TheVariants.{Private, Shared}
use Rattle.vm_types.specs.declared.config.Config.{Config}
use Rattle.vm_types.specs.declared.config.Mapping.{Mapping}
use Rattle.vm_types.specs.declared.config.Section.{Section}
use Rattle.vm_types.specs.declared.config.Origin.{Origin}
use Rattle.vm_types.specs.declared.config.Origin.TheVariants as origin
use Rattle.vm_types.specs.Behind.{origin_by}
pub use Rattle.vm_types.specs.Behind.{page_number, covers, origin_after}
pub use Rattle.vm_types.specs.Kinds.{paged_of, shared_of}
use Rattle.vm_types.specs.declared.names.Pfn.{Pfn}

-- what a page is mapped to: what is behind it, and its protection code
pub record Mapped : Type 0 where
  pub origin : Origin
  pub prot : ℕ

-- for each process, by the page's address divided by 512
abbrev pub Map : Type 0
Map = ℕ → ℕ → Option Mapped

abbrev pub proc : ℕ → Proc
proc p = record { 0 = p }

abbrev pub pfn : ℕ → Pfn
pfn f = record { 0 = f }

abbrev pub mapped_by : ℕ → Mapping → Mapped
mapped_by v m = record { origin = origin_by v m; prot = m.prot }

-- the maps that a configuration begins with
abbrev pub first_map : Config → Map
first_map config p v = option_map (mapped_by v) (find (covers p v) config.maps)

-- the page behind a page number of a process: a shared section's page, or the process's own
abbrev pub page_behind : Config → ℕ → ℕ → Origin → Page
page_behind config p v origin.Zero = Private (proc p) v
page_behind config p v (origin.Section s i) =
    if shared_of (slice_get config.sections s.0) then Shared s i else Private (proc p) v

-- the bytes of a section's page
abbrev pub bytes_of : Option Section → ℕ → List ℕ
bytes_of None i = replicate PAGE_BYTES 0
bytes_of (Some section) i = take PAGE_BYTES (drop (PAGE_BYTES * i) section.bytes)

abbrev pub section_bytes : Config → ℕ → ℕ → List ℕ
section_bytes config s i = bytes_of (slice_get config.sections s) i

-- the bytes that a page has before it is touched: zeros behind a demand zero page and in a section of the page
-- file, else its file's
abbrev pub first_bytes : Config → Origin → List ℕ
first_bytes config origin.Zero = replicate PAGE_BYTES 0
first_bytes config (origin.Section s i) =
    if paged_of (slice_get config.sections s.0) then replicate PAGE_BYTES 0 else section_bytes config s.0 i

abbrev pub is_private : Page → Bool
is_private (Private p v) = true
is_private (Shared s i) = false

-- a page that has a block of the page file: a private one, or one of a section in the page file
abbrev pub is_paged : Config → Page → Bool
is_paged config (Private p v) = true
is_paged config (Shared s i) = paged_of (slice_get config.sections s.0)
