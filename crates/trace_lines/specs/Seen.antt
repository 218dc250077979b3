-- What the reader keeps so that no line costs more as the trace grows: the bad frames, the mapped
-- pages and the blocks with failing calls, each under a number of its own. Source: this project's own.
use Rattle.std.specs.Prelude.{◌≡◌, ℕ, ◌+◌, ◌*◌, ◌%◌, ◌<◌, ◌≤◌, ◌==◌, Bool, ◌&&◌, nat_le, nat_lt, List, All, length, sum_by}
use Rattle.vm_types.specs.Configuration.{section_pages}
use Rattle.std.specs.List.{list_any}
use Rattle.std.specs.Ordering.{nat_cmp}
use Rattle.std.specs.BTreeSet.{contains}
use Rattle.vm_types.specs.declared.limits.TheConstants.{MOST_BLOCKS, MOST_EXTENT, MOST_PROCESSES, MOST_SECTIONS, MOST_SECTION_PAGES, PAGE_BYTES}
use Rattle.vm_types.specs.declared.names.BlockId.{BlockId}
use Rattle.vm_types.specs.declared.names.BlockId.TheVariants.{Section, PageFile, Swap}
use Rattle.vm_types.specs.declared.config.Config.{Config}
use Rattle.vm_types.specs.declared.config.Mapping.{Mapping}
use Rattle.trace_lines.specs.declared.seen.Seen.{Seen}
use Rattle.trace_lines.specs.Keys.{page_key, kind_keys, block_key}
use Rattle.trace_lines.specs.Headers.{is_listed}

-- whether the page is one of the mapping's
abbrev pub covers : Mapping → ℕ → ℕ → Bool
covers m p page = ((m.proc).0 == p) && nat_le (m.at).0 (PAGE_BYTES * page) && nat_lt (PAGE_BYTES * page) ((m.at).0 + PAGE_BYTES * m.pages)

abbrev pub is_mapped : List Mapping → ℕ → ℕ → Bool
is_mapped maps p page = list_any (λ m. covers m p page) maps

-- exactly what the configuration names
pub record IsSeen (seen : Seen) (config : Config) : Type 0 where
  pub bad : (f : ℕ) → contains nat_cmp seen.bad f ≡ is_listed config.bad f
  pub pages : (p page : ℕ) → page < 8388608 → contains nat_cmp seen.pages (page_key p page) ≡ is_mapped config.maps p page
  pub blocks : (key : ℕ) → contains nat_cmp seen.blocks key ≡ list_any (λ fails. block_key fails.block == key) config.fails

-- the block has a key of its own
abbrev pub IsKeyed : BlockId → Type 0
IsKeyed (Section s page) = (s.0 < MOST_SECTIONS) × (page < MOST_SECTION_PAGES)
IsKeyed (PageFile b) = b < kind_keys
IsKeyed (Swap p slot) = slot < MOST_EXTENT

-- a mapping of whole pages
abbrev pub IsPaged : Mapping → Type 0
IsPaged m = ((m.at).0 % PAGE_BYTES ≡ 0) × (1 ≤ m.pages)

-- the limits on which the keys rest
pub record HasKeyLimits (config : Config) : Type 0 where
  pub pagefile : config.pagefile ≤ MOST_BLOCKS
  pub sections : length config.sections ≤ MOST_SECTIONS
  pub pages : sum_by section_pages config.sections ≤ MOST_SECTION_PAGES
  pub locks : sum_by (λ spec. spec.locks) config.procs ≤ MOST_PROCESSES * MOST_EXTENT
  pub slots : All (λ spec. spec.extent ≤ MOST_EXTENT) config.procs
  pub blocks : All (λ fails. IsKeyed fails.block) config.fails
  pub maps : All IsPaged config.maps
