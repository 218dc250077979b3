-- The parts before the first entry. This project's own.
use Rattle.std.specs.Prelude.{◌≡◌, ℕ, ◌+◌, None, length, map, replicate, sum_by}
use Rattle.std.specs.Option.{option_map}
use Rattle.vm_types.specs.Behind.{first_behind}
use Rattle.vm_types.specs.Configuration.{section_pages}
use Rattle.vm_types.specs.declared.config.Config.{Config}
use Rattle.vm_types.specs.declared.config.ProcSpec.{ProcSpec}
use Rattle.vm_types.specs.declared.names.Page.{Page}
use Rattle.vm_types.specs.declared.names.ProcStatus.TheVariants as status
use Rattle.pte_forms.specs.declared.pte.Pte.{Pte}
use Rattle.page_tables.specs.PageTables.{pte_in}
use Rattle.pfn_database.specs.Frames.{opening as opening_frames}
use Rattle.section_table.specs.SectionTable.{behind_of, part_of}
use Rattle.pager_model.specs.Maps.{Mapped, first_map, page_behind}
use Rattle.state_parts.specs.ChargedTable.{HasPagedPlaces, kept_at}
use Rattle.state_parts.specs.SwapTable.{swapped_at}
use Rattle.state_parts.specs.declared.process_row.ProcessRow.{ProcessRow}
use Rattle.state_parts.specs.declared.spoken_row.SpokenRow.{SpokenRow}
use Rattle.state_fits.specs.Entries.{place_away}
use Rattle.state_fits.specs.Parts.{Parts}

-- a resident process with an empty ring
abbrev pub first_row : ProcSpec → ProcessRow
first_row spec = record { status = status.Resident; ring = record { slots = replicate spec.extent None; hand = 0 }; limit = spec.limit; references = 0; faults = 0; collided = None }

abbrev pub unspoken : SpokenRow
unspoken = record { last = None; count = 0 }

-- the entry of a page that is in no frame and lies nowhere but in its section's block
abbrev pub first_pte : Config → ℕ → ℕ → Mapped → Pte
first_pte config p v m = record { prot = m.prot; place = place_away config (page_behind config p v m.origin) m.origin None None }

pub record AreFirst (config : Config) (parts : Parts) : Type 0 where
  pub frames : parts.frames ≡ opening_frames config.frames config.bad
  pub starts : parts.starts ≡ replicate config.frames None
  pub roles : parts.roles ≡ replicate config.frames None
  pub processes : parts.processes ≡ map first_row config.procs
  pub spoken : parts.spoken ≡ replicate (length config.procs) unspoken
  pub table_procs : (parts.tables).procs ≡ length config.procs
  pub entries : (p v : ℕ) → pte_in parts.tables p v ≡ option_map (first_pte config p v) (first_map config p v)
  pub section_procs : (parts.sections).procs ≡ length config.procs
  pub kinds : (parts.sections).parts ≡ map part_of config.sections
  pub behind : (p v : ℕ) → behind_of parts.sections p v ≡ first_behind config p v
  pub page_procs : (parts.pages).procs ≡ length config.procs
  pub page_places : HasPagedPlaces config.sections parts.pages
  pub pages : (g : Page) → kept_at parts.pages g ≡ None
  pub globals : parts.globals ≡ record { frames = replicate (sum_by section_pages config.sections) None; counts = replicate (sum_by section_pages config.sections) 0 }
  pub file : parts.file ≡ record { charged = 0; owners = replicate config.pagefile None }
  pub swap_procs : (parts.swaps).procs ≡ length config.procs
  pub swaps : (p n : ℕ) → swapped_at parts.swaps p n ≡ None
  pub busy : parts.busy ≡ replicate (length config.procs + 2) 0
  pub in_flight : parts.in_flight ≡ 0
  pub failed : parts.failed ≡ None
