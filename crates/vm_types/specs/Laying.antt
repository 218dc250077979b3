-- A table with an item for each page that a process may map has room for a mapping, or for a range. This project's
-- own.
use Rattle.std.specs.Prelude.{ℕ, ◌+◌, ◌*◌, ◌≤◌}
use Rattle.vm_types.specs.Behind.{FitsPages}
use Rattle.vm_types.specs.WellFormed.{IsRange}
use Rattle.vm_types.specs.declared.config.Mapping.{Mapping}
use Rattle.vm_types.specs.declared.limits.TheConstants.{PRIVATE_PAGES}

-- a table of so many places has one for each page of the mapping
pub record CanLay (places : ℕ) (m : Mapping) : Type 0 where
  pub range : IsRange (m.at).0 m.pages
  pub room : PRIVATE_PAGES * (m.proc).0 + PRIVATE_PAGES ≤ places
  pub fits : FitsPages m.from m.pages

-- a table of so many places has one for each page of a process's range
pub record CanChange (places p address pages : ℕ) : Type 0 where
  pub range : IsRange address pages
  pub room : PRIVATE_PAGES * p + PRIVATE_PAGES ≤ places
