-- Bytes of pages, each page's in a row of its own. This project's own.
use Rattle.std.specs.Prelude.{◌≡◌, ℕ, ◌<◌, List, [], Option, Some, None, slice_index_or, if◌then◌else◌}
use Rattle.vm_types.specs.declared.names.Page.{Page}
use Rattle.vm_types.specs.declared.config.Config.{Config}
use Rattle.vm_types.specs.declared.config.Origin.{Origin}
use Rattle.pager_model.specs.Maps.{first_bytes}
use Rattle.shadow_tables.specs.PageTables.{Items, item_of}
use Rattle.shadow_flat.specs.declared.slot.Slot.{Slot}

-- the slots by page, and the rows
abbrev pub Slotted : Type 0
Slotted = Items Slot × List (List ℕ)

-- what a slot's row has, if it is kept
abbrev pub row_kept : List (List ℕ) → Option Slot → Option (List ℕ)
row_kept rows None = None
row_kept rows (Some slot) = if slot.kept then Some (slice_index_or rows slot.at []) else None

-- the bytes of a page that are kept
abbrev pub bytes_kept : Slotted → Page → Option (List ℕ)
bytes_kept pages page = row_kept pages.1 (item_of pages.0 page)

-- these, or others where none are kept
abbrev pub bytes_or : List ℕ → Option (List ℕ) → List ℕ
bytes_or others None = others
bytes_or others (Some bytes) = bytes

-- the bytes that a reference finds: those that are kept, else those that the page's origin gives
abbrev pub found_in : Config → Origin → Option (List ℕ) → List ℕ
found_in config origin o = bytes_or (first_bytes config origin) o

-- and by the page
abbrev pub found_at : Config → Origin → Slotted → Page → List ℕ
found_at config origin pages page = found_in config origin (bytes_kept pages page)

-- each slot's row is one of so many, and no two pages have one row
pub record AreSlots (slots : Page → Option Slot) (rows : ℕ) : Type 0 where
  pub within : (page : Page) (slot : Slot) → slots page ≡ Some slot → slot.at < rows
  pub apart : (page other : Page) (slot its : Slot) → slots page ≡ Some slot → slots other ≡ Some its → slot.at ≡ its.at → page ≡ other
