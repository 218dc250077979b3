-- What is kept of the pages that are charged to the page file: private pages, and pages of sections in the page
-- file. This project's own.
use Rattle.std.specs.Prelude.{◌≡◌, ℕ, ◌+◌, ◌*◌, ◌/◌, ◌<◌, true, List, [], Option, None, IsSome, length, replicate, slice_get, slice_index_or, if◌then◌else◌}
use Rattle.vm_types.specs.Configuration.{IsSectionPage, section_pages}
use Rattle.vm_types.specs.Kinds.{is_paged_kind, paged_of}
use Rattle.vm_types.specs.PagePlaces.{item_at, region_place}
use Rattle.vm_types.specs.declared.config.Section.{Section}
use Rattle.vm_types.specs.declared.names.Page.{Page}
use Rattle.vm_types.specs.declared.names.Page.TheVariants.{Private, Shared}
use Rattle.pager_model.specs.Sets.{at_page}
use Rattle.state_parts.specs.declared.charged_page.ChargedPage.{ChargedPage}

-- how many processes there are; by the place of a private page what is kept of it; and by section, for each of its
-- pages
pub record ChargedTable : Type 0 where
  pub procs : ℕ
  pub pages : List (Option ChargedPage)
  pub shared : List (List (Option ChargedPage))

abbrev pub charged_at : ChargedTable → ℕ → ℕ → Option ChargedPage
charged_at t p v = item_at t.pages p v

abbrev pub rows_of : ChargedTable → ℕ → List (Option ChargedPage)
rows_of t s = slice_index_or t.shared s []

-- what is kept of a page: none of a page that isn't charged
abbrev pub kept_at : ChargedTable → Page → Option ChargedPage
kept_at t (Private p v) = charged_at t p.0 v
kept_at t (Shared s i) = slice_index_or (rows_of t s.0) i None

-- the process is one of the table's, and the page one that may be mapped
pub record HasPage (t : ChargedTable) (p v : ℕ) : Type 0 where
  pub proc : p < t.procs
  pub page : IsSome (region_place v)

-- the table has a place for the page
abbrev pub HasPlace : ChargedTable → Page → Type 0
HasPlace t (Private p v) = HasPage t p.0 v
HasPlace t (Shared s i) = i < length (rows_of t s.0)

-- and one for each page of a section in the page file
abbrev pub HasPagedPlaces : List Section → ChargedTable → Type 0
HasPagedPlaces sections t = (s i : ℕ) → IsSectionPage sections s i → paged_of (slice_get sections s) ≡ true → i < length (rows_of t s)

-- one page has another row
pub record IsTableSet (old new : ChargedTable) (g : Page) (x : Option ChargedPage) : Type 0 where
  pub procs : new.procs ≡ old.procs
  pub places : (s : ℕ) → length (rows_of new s) ≡ length (rows_of old s)
  pub each : (h : Page) → kept_at new h ≡ at_page (kept_at old) g x h

-- ---- before the first charge
-- a section in the page file has runs of 64 places for its pages, and no other section has any
abbrev pub section_runs : Section → ℕ
section_runs section = if is_paged_kind section.kind then section_pages section / 64 + 1 else 0

abbrev pub first_rows : Section → List (Option ChargedPage)
first_rows section = replicate (section_runs section * 64) None
