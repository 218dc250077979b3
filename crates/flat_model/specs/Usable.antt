-- Pages that lie in their sections. This project's own.
use Rattle.std.specs.Prelude.{ℕ, ◌+◌, ◌<◌, ◌≤◌, List, Option, Some, None, slice_get}
use Rattle.vm_types.specs.Configuration.{IsSectionPage, section_pages}
use Rattle.vm_types.specs.declared.config.Origin.{Origin}
use Rattle.vm_types.specs.declared.config.Origin.TheVariants as origin
use Rattle.vm_types.specs.declared.config.Section.{Section}
use Rattle.flat_model.specs.declared.behind.Behind.{Behind}

abbrev pub pages_of : Option Section → ℕ
pages_of None = 0
pages_of (Some section) = section_pages section

-- the page of its section after an origin's, and the pages of that section
abbrev pub end_of : Origin → ℕ
end_of origin.Zero = 0
end_of (origin.Section s page) = page + 1

abbrev pub limit_of : List Section → Origin → ℕ
limit_of sections origin.Zero = 0
limit_of sections (origin.Section s page) = pages_of (slice_get sections s.0)

abbrev pub code_of : Option Behind → ℕ
code_of None = 0
code_of (Some b) = b.prot

abbrev pub last_of : Option Behind → ℕ
last_of None = 0
last_of (Some b) = end_of b.origin

abbrev pub most_of : List Section → Option Behind → ℕ
most_of sections None = 0
most_of sections (Some b) = limit_of sections b.origin

-- what a page is mapped to has a protection code, and lies in its section
abbrev pub IsUsable : List Section → Option Behind → Type 0
IsUsable sections o = (code_of o < 16) × (last_of o ≤ most_of sections o)

-- zeros, or a page of one of the sections
abbrev pub IsOrigin : List Section → Origin → Type 0
IsOrigin sections origin.Zero = Unit {0}
IsOrigin sections (origin.Section s page) = IsSectionPage sections s.0 page
