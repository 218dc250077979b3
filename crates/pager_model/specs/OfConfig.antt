-- What is mapped, held and assigned is of the configuration. This project's own.
use Rattle.std.specs.Prelude.{◌≡◌, ◌⊎◌, ℕ, true, ◌-◌, ◌^◌, ◌<◌, ◌≤◌, Option, Some, length, slice_get}
use Rattle.std.specs.List.{AllByRecursion}
use Rattle.vm_types.specs.declared.limits.TheConstants.{P0_PAGES, P1_PAGES}
use Rattle.vm_types.specs.Configuration.{IsSectionPage}
use Rattle.vm_types.specs.WellFormed.{IsCode}
use Rattle.vm_types.specs.declared.names.Page.{Page}
use Rattle.vm_types.specs.declared.names.Page.TheVariants.{Private, Shared}
use Rattle.vm_types.specs.declared.names.ProcStatus.TheVariants as status
use Rattle.vm_types.specs.declared.config.Config.{Config}
use Rattle.vm_types.specs.declared.config.Origin.{Origin}
use Rattle.vm_types.specs.declared.config.Origin.TheVariants as origin
use Rattle.pager_model.specs.Maps.{Map, Mapped, shared_of}
use Rattle.pager_model.specs.Pager.{Pager, Assigned}

-- a page that a process may map: of P0 the pages 0 to 4095, of P1 the last 1024
abbrev pub IsMappable : ℕ → Type 0
IsMappable v = (v < P0_PAGES) ⊎ ((2 ^ 22 - P1_PAGES ≤ v) × (v < 2 ^ 22))

abbrev pub IsOrigin : Config → Origin → Type 0
IsOrigin config origin.Zero = Unit {0}
IsOrigin config (origin.Section s i) = IsSectionPage config.sections s.0 i

-- a mapping is of a process of the configuration, at a page that it may map, of zeros or of a section's page,
-- with a protection code that is in use
pub record IsMappedRight (config : Config) (p v : ℕ) (m : Mapped) : Type 0 where
  pub process : p < length config.procs
  pub page : IsMappable v
  pub origin : IsOrigin config m.origin
  pub code : IsCode m.prot

-- a page of a process, or of a shared section
abbrev pub IsPageOf : Config → Page → Type 0
IsPageOf config (Private p v) = (p.0 < length config.procs) × IsMappable v
IsPageOf config (Shared s i) = IsSectionPage config.sections s.0 i × (shared_of (slice_get config.sections s.0) ≡ true)

abbrev pub MapsRight : Config → Map → Type 0
MapsRight config map = (p v : ℕ) (m : Mapped) → map p v ≡ Some m → IsMappedRight config p v m

abbrev pub HoldsRight : Config → (ℕ → Option Page) → Type 0
HoldsRight config page = (f : ℕ) (g : Page) → page f ≡ Some g → IsPageOf config g

-- mappings, held and charged pages are right, assigned blocks are in the page file, and a process that isn't
-- there is resident
pub record IsOfConfig (config : Config) (a : Pager) : Type 0 where
  pub mapped : MapsRight config a.map
  pub held : HoldsRight config a.page
  pub charged : AllByRecursion (IsPageOf config) a.charged
  pub assigned : AllByRecursion (λ (x : Assigned). x.block < config.pagefile) a.assigned
  pub absent : (p : ℕ) → length config.procs ≤ p → a.status p ≡ status.Resident
