-- The pages of shared sections by their numbers. Source: Kenah and Bate, "VAX/VMS Internals and Data
-- Structures", memory structures, global pages.
use Rattle.std.specs.Prelude.{◌≡◌, ℕ, ◌-◌, ◌^◌, ◌<◌, List, Some, slice_get}
use Rattle.vm_types.specs.declared.config.Config.{Config}
use Rattle.vm_types.specs.declared.names.Page.{Page}
use Rattle.vm_types.specs.declared.names.Page.TheVariants.{Private, Shared}
use Rattle.global_pages.specs.GlobalPages.{GlobalPages, IsGlobalPage, count_of}
use Rattle.state_fits.specs.Entries.{section_page_number}

-- the number of a page follows from that of its section's first page
pub record HasNumber (config : Config) (firsts : List ℕ) (s i : ℕ) : Type 0 where
  pub first : slice_get firsts s ≡ Some (section_page_number config s 0)
  pub small : section_page_number config s i < 2 ^ 32

-- a private page needs no number
abbrev pub IsNumbered : Config → List ℕ → Page → Type 0
IsNumbered config firsts (Private p v) = Unit {0}
IsNumbered config firsts (Shared s i) = HasNumber config firsts s.0 i

-- a shared page that a valid entry names
abbrev pub HasShare : Config → GlobalPages → Page → Type 0
HasShare config table (Private p v) = Unit {0}
HasShare config table (Shared s i) = IsGlobalPage table (section_page_number config s.0 i) × (0 < count_of table (section_page_number config s.0 i))

-- a shared page that one more valid entry may name
abbrev pub CanShare : Config → GlobalPages → Page → Type 0
CanShare config table (Private p v) = Unit {0}
CanShare config table (Shared s i) = IsGlobalPage table (section_page_number config s.0 i) × (count_of table (section_page_number config s.0 i) < 2 ^ 32 - 1)

-- a shared page is one of the global pages
abbrev pub IsGlobal : Config → GlobalPages → Page → Type 0
IsGlobal config table (Private p v) = Unit {0}
IsGlobal config table (Shared s i) = IsGlobalPage table (section_page_number config s.0 i)
