-- What makes a configuration well formed. This project's own: the limits of the machine, and that
-- each thing is named once.
use Rattle.std.specs.Prelude.{◌≡◌, ◌≢◌, ◌⊎◌, ℕ, false, true, ◌+◌, ◌*◌, ◌/◌, ◌%◌, ◌<◌, ◌≤◌, List, Some, length, sum_by, slice_get, All, AllPairs, IfSome, replicate, if◌then◌else◌}
use Rattle.vm_types.specs.Kinds.{is_paged_kind, paged_of}
use Rattle.vm_types.specs.Versions.{is_first, most_frames, most_requests}
use Rattle.vm_types.specs.WellFormed.{IsRange, IsCode, IsRequestOf, IsWellFormedRequest}
use Rattle.vm_types.specs.declared.names.BlockId.{BlockId}
use Rattle.vm_types.specs.declared.names.BlockId.TheVariants as block
use Rattle.vm_types.specs.declared.config.Config.{Config}
use Rattle.vm_types.specs.declared.config.Fails.{Fails}
use Rattle.vm_types.specs.declared.config.Mapping.{Mapping}
use Rattle.vm_types.specs.declared.config.Origin.{Origin}
use Rattle.vm_types.specs.declared.config.Origin.TheVariants as origin
use Rattle.vm_types.specs.declared.config.Params.{Params}
use Rattle.vm_types.specs.declared.config.ProcSpec.{ProcSpec}
use Rattle.vm_types.specs.declared.config.Section.{Section}
use Rattle.vm_types.specs.declared.config.Task.{Task}
use Rattle.vm_types.specs.declared.config.Version.{Version}
use Rattle.vm_types.specs.declared.limits.TheConstants.{MOST_BLOCKS, MOST_COUNTED, MOST_EXTENT, MOST_FAILS, MOST_FRAMES, MOST_FREE, MOST_LIFTS, MOST_MODIFIED, MOST_PROCESSES, MOST_READ_CLUSTER, MOST_SECTIONS, MOST_SECTION_PAGES, PAGE_BYTES}

-- the pages of a section
abbrev pub section_pages : Section → ℕ
section_pages section = length section.bytes / PAGE_BYTES

-- the ranges of the parameters, and their order
pub record AreParams (params : Params) : Type 0 where
  pub pfc : (1 ≤ params.pfc) × (params.pfc ≤ MOST_READ_CLUSTER)
  pub hilimit : params.hilimit ≤ MOST_MODIFIED
  pub lolimit : params.lolimit ≤ params.hilimit
  pub waitlimit : (1 ≤ params.waitlimit) × (params.waitlimit ≤ MOST_MODIFIED)
  pub wait_above : params.hilimit ≤ params.waitlimit
  pub wrtcluster : (1 ≤ params.wrtcluster) × (params.wrtcluster ≤ MOST_LIFTS)
  pub freelim : params.freelim ≤ params.freegoal
  pub freegoal : params.freegoal ≤ MOST_FREE
  pub awstime : params.awstime ≤ MOST_COUNTED
  pub pfrath : params.pfrath ≤ MOST_COUNTED
  pub pfratl : params.pfratl ≤ MOST_COUNTED
  pub wsinc : params.wsinc ≤ MOST_EXTENT
  pub wsdec : params.wsdec ≤ MOST_EXTENT
  pub awsmin : (2 ≤ params.awsmin) × (params.awsmin ≤ MOST_EXTENT)
  pub borrowlim : params.borrowlim ≤ MOST_FREE

-- a byte of a section's name: A to Z, or, not in the first place, 0 to 9 and _
abbrev pub IsLetter : ℕ → Type 0
IsLetter b = (65 ≤ b) × (b ≤ 90)

abbrev pub IsNameByte : ℕ → Type 0
IsNameByte b = IsLetter b ⊎ ((48 ≤ b) × (b ≤ 57)) ⊎ (b ≡ 95)

pub record IsName (name : List ℕ) : Type 0 where
  pub length : (2 ≤ length name) × (length name ≤ 15)
  pub letter : IfSome (slice_get name 0) IsLetter
  pub bytes : All IsNameByte name

-- version 1 has no sections in the page file; their bytes are zeros
pub record IsSection (v : Version) (section : Section) : Type 0 where
  pub name : IsName section.name
  pub whole : length section.bytes % PAGE_BYTES ≡ 0
  pub some : PAGE_BYTES ≤ length section.bytes
  pub paged : is_paged_kind section.kind ≡ true → (is_first v ≡ false) × (section.bytes ≡ replicate (length section.bytes) 0)

pub record AreSections (v : Version) (sections : List Section) : Type 0 where
  pub few : length sections ≤ MOST_SECTIONS
  pub pages : sum_by section_pages sections ≤ MOST_SECTION_PAGES
  pub each : All (IsSection v) sections
  pub differ : AllPairs (λ s t. s.name ≢ t.name) sections

-- the limits of a process, in their order
pub record IsLimited (spec : ProcSpec) : Type 0 where
  pub locks : spec.locks + 2 ≤ spec.limit
  pub quota : spec.limit ≤ spec.quota
  pub extent : spec.quota ≤ spec.extent
  pub most : spec.extent ≤ MOST_EXTENT

-- the pages that a process may pin
abbrev pub pins_of : Version → ProcSpec → ℕ
pins_of v spec = if is_first v then 0 else spec.locks

-- and all processes together
abbrev pub all_pins : Config → ℕ
all_pins config = sum_by (pins_of config.version) config.procs

-- a process alone in memory but for pinned pages always finds a free or a modified page, and a victim; as many
-- frames are kept as are bad or may be pinned
pub record IsProcess (frames kept : ℕ) (spec : ProcSpec) : Type 0 where
  pub limited : IsLimited spec
  pub room : spec.extent + kept + 2 ≤ frames

-- the page is one of the section's
abbrev pub IsSectionPage : List Section → ℕ → ℕ → Type 0
IsSectionPage sections s page = (section : Section) × (slice_get sections s ≡ Some section) × (page < section_pages section)

-- the origin has this many pages
abbrev pub HasPages : List Section → Origin → ℕ → Type 0
HasPages sections origin.Zero pages = Unit {0}
HasPages sections (origin.Section s first) pages =
    (section : Section) × (slice_get sections s.0 ≡ Some section) × (first + pages ≤ section_pages section)

pub record IsMapping (procs : ℕ) (sections : List Section) (m : Mapping) : Type 0 where
  pub proc : (m.proc).0 < procs
  pub range : IsRange (m.at).0 m.pages
  pub code : IsCode m.prot
  pub origin : HasPages sections m.from m.pages

-- no page is mapped by both
abbrev pub AreApart : Mapping → Mapping → Type 0
AreApart m n = ((m.proc).0 ≢ (n.proc).0) ⊎ (((m.at).0 + PAGE_BYTES * m.pages ≤ (n.at).0) ⊎ ((n.at).0 + PAGE_BYTES * n.pages ≤ (m.at).0))

-- section blocks by section and page, but none of a section in the page file, the page file's blocks, and as many
-- swap blocks of a process as its extent
abbrev pub IsBlock : Config → BlockId → Type 0
IsBlock config (block.Section s page) = IsSectionPage config.sections s.0 page × (paged_of (slice_get config.sections s.0) ≡ false)
IsBlock config (block.PageFile b) = b < config.pagefile
IsBlock config (block.Swap p n) = (spec : ProcSpec) × (slice_get config.procs p.0 ≡ Some spec) × (n < spec.extent)

pub record AreFails (config : Config) (fails : Fails) : Type 0 where
  pub block : IsBlock config fails.block
  pub some : (1 ≤ length fails.calls) × (length fails.calls ≤ MOST_FAILS)
  pub calls : All (λ call. 1 ≤ call) fails.calls

pub record IsTask (v : Version) (procs : ℕ) (task : Task) : Type 0 where
  pub proc : (task.proc).0 < procs
  pub request : IsWellFormedRequest task.request
  pub of_version : IsRequestOf v task.request

-- the version has so many frames
abbrev pub FitsVersion : Version → ℕ → Type 0
FitsVersion v frames = frames ≤ most_frames v

-- all that a trace's configuration keeps
pub record IsWellFormed (config : Config) : Type 0 where
  pub frames : (8 ≤ config.frames) × (config.frames ≤ MOST_FRAMES)
  pub of_version : FitsVersion config.version config.frames
  pub bad : All (λ f. f < config.frames) config.bad
  pub bad_differ : AllPairs (λ f g. f ≢ g) config.bad
  pub pagefile : (1 ≤ config.pagefile) × (config.pagefile ≤ MOST_BLOCKS)
  pub params : AreParams config.params
  pub sections : AreSections config.version config.sections
  pub some_process : (1 ≤ length config.procs) × (length config.procs ≤ MOST_PROCESSES)
  pub procs : All (IsProcess config.frames (length config.bad + all_pins config)) config.procs
  pub maps : All (IsMapping (length config.procs) config.sections) config.maps
  pub maps_apart : AllPairs AreApart config.maps
  pub fails : All (AreFails config) config.fails
  pub fails_differ : AllPairs (λ a b. a.block ≢ b.block) config.fails
  pub few_tasks : length config.body ≤ most_requests config.version
  pub body : All (IsTask config.version (length config.procs)) config.body
