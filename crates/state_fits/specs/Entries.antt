-- The page table entries of the processes, and what is behind their pages, as they stand for the pager's state.
-- Source: VAX Architecture Reference Manual, memory management; Kenah and Bate, "VAX/VMS Internals and Data
-- Structures", the forms of an invalid page table entry.
use Rattle.std.specs.Prelude.{◌≡◌, ℕ, List, Option, Some, None, map, length, false}
use Rattle.std.specs.Option.{option_map}
use Rattle.vm_types.specs.declared.config.Config.{Config}
use Rattle.vm_types.specs.declared.config.Origin.{Origin}
use Rattle.vm_types.specs.declared.config.Origin.TheVariants as origin
use Rattle.vm_types.specs.declared.names.BlockId.{BlockId}
use Rattle.vm_types.specs.declared.names.BlockId.TheVariants as block
use Rattle.vm_types.specs.declared.names.Page.{Page}
use Rattle.vm_types.specs.declared.names.Page.TheVariants.{Private, Shared}
use Rattle.pte_forms.specs.declared.pte.Place.{Place}
use Rattle.pte_forms.specs.declared.pte.Place.TheVariants as place
use Rattle.pte_forms.specs.declared.pte.Pte.{Pte}
use Rattle.page_tables.specs.PageTables.{PageTables, pte_in}
use Rattle.section_table.specs.SectionTable.{SectionTable, behind_of, part_of}
use Rattle.pager_model.specs.Maps.{pfn, Map, Mapped, page_behind}
use Rattle.pager_model.specs.Forget.{holder}
use Rattle.pager_model.specs.Lookups.{entry_of}
use Rattle.pager_model.specs.Pager.{Valid}
pub use Rattle.pager_laws.specs.SectionNumbers.{section_page_number}

abbrev pub origin_place : Config → Origin → Place
origin_place config origin.Zero = place.DemandZero
origin_place config (origin.Section s i) = place.SectionIndex (section_page_number config s.0 i)

-- of a page that is in no frame: the block in which it lies, or else what is behind it
abbrev pub resting_place : Config → Origin → Option BlockId → Place
resting_place config o None = origin_place config o
resting_place config o (Some (block.PageFile b)) = place.PageFile b
resting_place config o (Some (block.Swap p n)) = place.Swap n
resting_place config o (Some (block.Section s i)) = origin_place config o

-- of a private page whose entry isn't valid: its frame, if one holds it
abbrev pub own_place : Config → Origin → Option ℕ → Option BlockId → Place
own_place config o (Some f) lies = place.Transition (pfn f)
own_place config o None lies = resting_place config o lies

-- of a page whose entry isn't valid
abbrev pub place_away : Config → Page → Origin → Option ℕ → Option BlockId → Place
place_away config (Private p v) o holds lies = own_place config o holds lies
place_away config (Shared s i) o holds lies = place.GlobalIndex (section_page_number config s.0 i)

abbrev pub place_by : Config → Page → Origin → Option Valid → Option ℕ → Option BlockId → Place
place_by config g o (Some e) holds lies = place.Valid false (pfn e.frame)
place_by config g o None holds lies = place_away config g o holds lies

abbrev pub pte_by : Config → Page → Mapped → Option Valid → Option ℕ → Option BlockId → Pte
pte_by config g m valid holds lies = record { prot = m.prot; place = place_by config g m.origin valid holds lies }

-- the entry at a page number of a process, if it is mapped
abbrev pub pte_at : Config → ℕ → ℕ → (Page → Option ℕ) → (Page → Option BlockId) → Option Valid → Option Mapped → Option Pte
pte_at config p v holds lies valid None = None
pte_at config p v holds lies valid (Some m) =
    Some (pte_by config (page_behind config p v m.origin) m valid (holds (page_behind config p v m.origin)) (lies (page_behind config p v m.origin)))

unfoldable pub pte_of : Config → Map → List Valid → (ℕ → Option Page) → (Page → Option BlockId) → ℕ → ℕ → Option Pte
pte_of config map valid page lies p v = pte_at config p v (holder config page) lies (entry_of valid p v) (map p v)

pub record TablesFit (pte : ℕ → ℕ → Option Pte) (n : ℕ) (tables : PageTables) : Type 0 where
  pub procs : tables.procs ≡ n
  pub each : (p v : ℕ) → pte_in tables p v ≡ pte p v

abbrev pub origin_of : Map → ℕ → ℕ → Option Origin
origin_of map p v = option_map (λ (m : Mapped). m.origin) (map p v)

pub record SectionsFit (config : Config) (behind : ℕ → ℕ → Option Origin) (table : SectionTable) : Type 0 where
  pub procs : table.procs ≡ length config.procs
  pub kinds : table.parts ≡ map part_of config.sections
  pub each : (p v : ℕ) → behind_of table p v ≡ behind p v
