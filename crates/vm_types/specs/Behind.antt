-- What the mappings of a configuration put behind a page of a process. This project's own: one file
-- backs one section.
use Rattle.std.specs.Prelude.{ℕ, Bool, ◌+◌, ◌-◌, ◌/◌, ◌^◌, ◌<◌, ◌&&◌, Option, find, nat_eq, nat_le, nat_lt}
use Rattle.std.specs.Option.{option_map}
use Rattle.vm_types.specs.declared.limits.TheConstants.{PAGE_BYTES}
use Rattle.vm_types.specs.declared.config.Config.{Config}
use Rattle.vm_types.specs.declared.config.Mapping.{Mapping}
use Rattle.vm_types.specs.declared.config.Origin.{Origin}
use Rattle.vm_types.specs.declared.config.Origin.TheVariants as origin

-- the page that an address lies in
abbrev pub page_number : ℕ → ℕ
page_number address = address / PAGE_BYTES

-- whether the mapping has the page
abbrev pub covers : ℕ → ℕ → Mapping → Bool
covers p v m = nat_eq (m.proc).0 p && (nat_le (page_number (m.at).0) v && nat_lt v (page_number (m.at).0 + m.pages))

-- the number of the section's page so many pages on can be said
abbrev pub FitsPages : Origin → ℕ → Type 0
FitsPages origin.Zero pages = Unit {0}
FitsPages (origin.Section s first) pages = first + pages < 2 ^ 32

-- the origin so many pages on
abbrev pub origin_after : Origin → ℕ → Origin
origin_after origin.Zero pages = origin.Zero
origin_after (origin.Section s first) pages = origin.Section s (first + pages)

-- what a mapping puts behind one of its pages
abbrev pub origin_by : ℕ → Mapping → Origin
origin_by v m = origin_after m.from (v - page_number (m.at).0)

-- what is behind a page at the start: none behind a page without a mapping
abbrev pub first_behind : Config → ℕ → ℕ → Option Origin
first_behind config p v = option_map (origin_by v) (find (covers p v) config.maps)
