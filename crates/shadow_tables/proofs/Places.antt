-- The table of a well-formed configuration's pages has a place for each page of its mappings.
use Rattle.std.proofs.Common.{◌≡◌, ℕ, ◌*◌, ◌≤◌, List, Some, length, ap, arith}
use Rattle.std.specs.Prelude.{sum_by, slice_get, slice_index_or, All}
use Rattle.std.proofs.lemmas.List.Sums.{sum_by_more_le}
use Rattle.std.proofs.lemmas.Option.{get_or_from_slice_get, slice_get_within}
use Rattle.vm_types.specs.declared.limits.TheConstants.{MOST_SECTION_PAGES, PRIVATE_PAGES}
use Rattle.vm_types.specs.Configuration.{IsWellFormed, HasPages, section_pages}
use Rattle.vm_types.specs.declared.config.Config.{Config}
use Rattle.vm_types.specs.declared.config.Origin.{Origin}
use Rattle.vm_types.specs.declared.config.Origin.TheVariants as origin
use Rattle.vm_types.specs.declared.config.Section.{Section}
use Rattle.vm_types.specs.Behind.{FitsPages}
use Rattle.vm_types.specs.Laying.{CanLay}

one_of_sum : {X : Type 0} (f : X → ℕ) (xs : List X) (k : ℕ) (x : X) → slice_get xs k ≡ Some x → f x ≤ sum_by f xs
one_of_sum f xs k x e =
    let part = sum_by_more_le f xs k x (slice_get_within xs k x e) in
    let same = ap f (get_or_from_slice_get xs k x x e) in
    omega arith

fits_sections : (sections : List Section) (from : Origin) (pages : ℕ) → sum_by section_pages sections ≤ MOST_SECTION_PAGES → HasPages sections from pages → FitsPages from pages
fits_sections sections origin.Zero pages few has = tt
fits_sections sections (origin.Section s first) pages few has =
    let part = one_of_sum section_pages sections s.0 has.0 has.1 in
    omega (arith, part, few, has.2)

pub can_lay_all : (config : Config) → IsWellFormed config → (places : ℕ) → places ≡ length config.procs * PRIVATE_PAGES → All (CanLay places) config.maps
can_lay_all config formed places is k d below =
    let h = formed.maps k d below in
    record { range = h.range; room = omega (arith, h.proc, is); fits = fits_sections config.sections (slice_index_or config.maps k d).from (slice_index_or config.maps k d).pages formed.sections.pages h.origin }
