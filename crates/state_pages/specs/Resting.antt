-- The entry of a page that leaves its frame, and the charge that it gives up. Source: Kenah and Bate, "VAX/VMS
-- Internals and Data Structures", the forms of an invalid page table entry; the charges are this project's own.
use Rattle.std.specs.Prelude.{◌≡◌, ℕ, ◌-◌, ◌<◌, true, List, Option, Some, None, IsSome}
use Rattle.vm_types.specs.PagePlaces.{changed_at}
use Rattle.vm_types.specs.declared.config.Config.{Config}
use Rattle.vm_types.specs.declared.config.Origin.{Origin}
use Rattle.vm_types.specs.declared.config.Origin.TheVariants as origin
use Rattle.vm_types.specs.declared.names.BlockId.{BlockId}
use Rattle.vm_types.specs.declared.names.BlockId.TheVariants as block
use Rattle.vm_types.specs.declared.names.Page.{Page}
use Rattle.vm_types.specs.declared.names.Page.TheVariants.{Private, Shared}
use Rattle.page_file.specs.Blocks.{Blocks, assigned_blocks}
use Rattle.page_tables.specs.PageTables.{IsEntry, IsMapped, PageTables, pte_in}
use Rattle.pte_forms.specs.declared.pte.Pte.{Pte}
use Rattle.pager_model.specs.Maps.{proc}
use Rattle.section_table.specs.SectionTable.{SectionTable, behind_of}
use Rattle.state_parts.specs.ChargedTable.{ChargedTable, HasPlace, IsTableSet, kept_at}
use Rattle.state_parts.specs.declared.charged_page.ChargedPage.{ChargedPage}
use Rattle.state_fits.specs.Changes.{is_failed_first}
use Rattle.state_fits.specs.Entries.{resting_place}
use Rattle.state_pages.specs.SectionPages.{HasNumber}

-- the number of the section's page that is behind a page is known
abbrev pub IsNumberedOrigin : Config → List ℕ → Origin → Type 0
IsNumberedOrigin config firsts origin.Zero = Unit {0}
IsNumberedOrigin config firsts (origin.Section s i) = HasNumber config firsts s.0 i

-- a private page is mapped and charged, and its entry may name the place where it rests
pub record CanRest (config : Config) (firsts : List ℕ) (pages : ChargedTable) (sections : SectionTable) (tables : PageTables) (p v : ℕ) : Type 0 where
  pub mapped : IsMapped tables p v
  pub charged : IsSome (kept_at pages (Private (proc p) v))
  pub behind : IsSome (behind_of sections p v)
  pub numbered : (b : Origin) → behind_of sections p v ≡ Some b → IsNumberedOrigin config firsts b
  pub entry : (c : ChargedPage) (b : Origin) (pte : Pte) → kept_at pages (Private (proc p) v) ≡ Some c → behind_of sections p v ≡ Some b → pte_in tables p v ≡ Some pte → IsEntry (record pte { place = resting_place config b c.lies })

abbrev pub MayRest : Config → List ℕ → ChargedTable → SectionTable → PageTables → Page → Type 0
MayRest config firsts pages sections tables (Private p v) = CanRest config firsts pages sections tables p.0 v
MayRest config firsts pages sections tables (Shared s i) = Unit {0}

-- the entry of a private page names the place where it rests
pub record IsAtRest (config : Config) (pages : ChargedTable) (sections : SectionTable) (old new : PageTables) (p v : ℕ) : Type 0 where
  pub charged : ChargedPage
  pub behind : Origin
  pub pte : Pte
  pub kept : kept_at pages (Private (proc p) v) ≡ Some charged
  pub origin : behind_of sections p v ≡ Some behind
  pub entry : pte_in old p v ≡ Some pte
  pub procs : new.procs ≡ old.procs
  pub changed : (q w : ℕ) → pte_in new q w ≡ changed_at (pte_in old) p v (Some (record pte { place = resting_place config behind charged.lies })) q w

-- no entry names the frame of a shared page
abbrev pub Rests : Config → ChargedTable → SectionTable → PageTables → PageTables → Page → Type 0
Rests config pages sections old new (Private p v) = IsAtRest config pages sections old new p.0 v
Rests config pages sections old new (Shared s i) = new ≡ old

-- a page may lose its charge, if it had it for a first read that failed
abbrev pub MayUncharge : Page → Option BlockId → ChargedTable → Blocks → Type 0
MayUncharge (Private p v) failed pages file = HasPlace pages (Private p v) × (is_failed_first failed (Private p v) ≡ true → assigned_blocks file < file.charged)
MayUncharge (Shared s i) failed pages file = Unit {0}

pub record IsUncharged (g : Page) (pages pages' : ChargedTable) (file file' : Blocks) : Type 0 where
  pub row : IsTableSet pages pages' g None
  pub released : file' ≡ record file { charged = file.charged - 1 }

-- a private page whose read from its section block failed isn't charged any more
abbrev pub Uncharges : Page → Option BlockId → ChargedTable → ChargedTable → Blocks → Blocks → Type 0
Uncharges (Private p v) (Some (block.Section s i)) pages pages' file file' = IsUncharged (Private p v) pages pages' file file'
Uncharges page failed pages pages' file file' = (pages' ≡ pages) × (file' ≡ file)
