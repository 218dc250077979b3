-- Items by page: by its place for a page that a process may map, and for one of a section. This project's own.
use Rattle.std.specs.Prelude.{◌≡◌, ℕ, ◌+◌, ◌*◌, ◌/◌, ◌<◌, ◌≤◌, Bool, true, false, List, [], Option, Some, None, length, map, replicate, slice_index_or, slice_set}
use Rattle.vm_types.specs.Configuration.{section_pages}
use Rattle.vm_types.specs.PagePlaces.{item_at}
use Rattle.vm_types.specs.declared.config.Section.{Section}
use Rattle.vm_types.specs.declared.names.Page.{Page}
use Rattle.vm_types.specs.declared.names.Page.TheVariants.{Private, Shared}
use Rattle.pager_model.specs.Sets.{at_page}

-- the items by place of the pages that processes may map, and of each section those of its pages
abbrev pub Items : Type 0 → Type 0
Items X = List (Option X) × List (List (Option X))

-- the item of a page: by its place among those of the processes or of its section
unfoldable pub item_of : {X : Type 0} → Items X → Page → Option X
item_of items (Private p v) = item_at items.0 p.0 v
item_of items (Shared s i) = slice_index_or (slice_index_or items.1 s.0 []) i None

-- a place is set if there is one, and else all stays
abbrev pub IsRowSet : {X : Type 0} → List (Option X) → List (Option X) → ℕ → Option X → Bool → Type 0
IsRowSet old new k x true = (k < length old) × (new ≡ slice_set old k x)
IsRowSet old new k x false = (length old ≤ k) × (new ≡ old)

-- the page has the item, and each other page what it had; or it has no place, and so no item, and all stays
abbrev pub IsTableSet : {X : Type 0} → Items X → Items X → Page → Option X → Bool → Type 0
IsTableSet old new g x true = item_of new ≡ at_page (item_of old) g x
IsTableSet old new g x false = (item_of old g ≡ None) × (new ≡ old)

-- before the first item
abbrev pub section_runs : Section → ℕ
section_runs section = section_pages section / 64 + 1

abbrev pub first_row : {X : Type 0} → Section → List (Option X)
first_row section = replicate (section_runs section * 64) None

abbrev pub first_rows : {X : Type 0} → List Section → List (List (Option X))
first_rows sections = map first_row sections
