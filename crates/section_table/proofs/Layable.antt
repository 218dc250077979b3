-- The mappings of a well-formed configuration can be laid into a table of all its processes.
use Rattle.std.proofs.Common.{◌≡◌, ℕ, ◌*◌, ◌≤◌, List, length, ap, arith}
use Rattle.std.proofs.lemmas.List.Sums.{get_or-le-sum_by}
use Rattle.std.proofs.lemmas.Option.{slice_get_within, get_or_from_slice_get}
use Rattle.std.specs.List.{All, slice_index_or, sum_by}
use Rattle.vm_types.specs.declared.limits.TheConstants.{MOST_SECTION_PAGES, PRIVATE_PAGES}
use Rattle.vm_types.specs.Behind.{FitsPages}
use Rattle.vm_types.specs.Configuration.{HasPages, IsMapping, IsWellFormed, section_pages}
use Rattle.vm_types.specs.declared.config.Config.{Config}
use Rattle.vm_types.specs.declared.config.Mapping.{Mapping}
use Rattle.vm_types.specs.declared.config.Origin.{Origin}
use Rattle.vm_types.specs.declared.config.Origin.TheVariants as origin
use Rattle.vm_types.specs.declared.config.Section.{Section}
use Rattle.vm_types.specs.Laying.{CanLay}

fits_sections : (sections : List Section) (from : Origin) (pages : ℕ) → sum_by section_pages sections ≤ MOST_SECTION_PAGES → HasPages sections from pages → FitsPages from pages
fits_sections sections origin.Zero pages few has = tt
fits_sections sections (origin.Section s first) pages few has =
    let part = get_or-le-sum_by section_pages sections s.0 has.0 (slice_get_within sections s.0 has.0 has.1) in
    let same = ap section_pages (get_or_from_slice_get sections s.0 has.0 has.0 has.1) in
    omega (arith, part, same, has.2)

can_lay : (procs places : ℕ) (sections : List Section) (m : Mapping) → PRIVATE_PAGES * procs ≤ places → sum_by section_pages sections ≤ MOST_SECTION_PAGES → IsMapping procs sections m → CanLay places m
can_lay procs places sections m room few h =
    record { range = h.range; room = omega (arith, h.proc); fits = fits_sections sections m.from m.pages few h.origin }

pub can_lay_all : (config : Config) → IsWellFormed config → (places : ℕ) → places ≡ length config.procs * PRIVATE_PAGES → All (CanLay places) config.maps
can_lay_all config formed places is k d below =
    can_lay (length config.procs) places config.sections (slice_index_or config.maps k d) (omega arith) formed.sections.pages (formed.maps k d below)
