-- What the flat machine keeps of a page's mapping, by the page's place. This project's own.
use Rattle.std.specs.Prelude.{◌≡◌, ℕ, ◌&&◌, List, Option, Some, nat_eq, if◌then◌else◌}
use Rattle.std.specs.Option.{option_map}
use Rattle.vm_types.specs.Behind.{covers, origin_by}
use Rattle.vm_types.specs.PagePlaces.{item_at}
use Rattle.vm_types.specs.declared.config.Mapping.{Mapping}
use Rattle.pager_model.specs.FlatService.{in_range}
use Rattle.pager_model.specs.Maps.{Mapped}
use Rattle.flat_model.specs.declared.behind.Behind.{Behind}

-- as the model has it
abbrev pub as_mapped : Behind → Mapped
as_mapped b = record { origin = b.origin; prot = b.prot }

abbrev pub behind_by : ℕ → Mapping → Behind
behind_by v m = record { origin = origin_by v m; prot = m.prot }

-- what a page of a process is mapped to
abbrev pub mapped_in : List (Option Behind) → ℕ → ℕ → Option Mapped
mapped_in pages p v = option_map as_mapped (item_at pages p v)

-- the mapping's pages are mapped to what it says, and all others to what they were
abbrev pub IsLaid : Mapping → (ℕ → ℕ → Option Behind) → (ℕ → ℕ → Option Behind) → Type 0
IsLaid m old new = (p v : ℕ) → new p v ≡ (if covers p v m then Some (behind_by v m) else old p v)

-- the pages of a process's range are mapped to what the change makes of it, and all others to what they were
abbrev pub IsChangedIn : (Option Behind → Option Behind) → ℕ → ℕ → ℕ → (ℕ → ℕ → Option Behind) → (ℕ → ℕ → Option Behind) → Type 0
IsChangedIn change p address pages old new =
    (q v : ℕ) → new q v ≡ (if nat_eq p q && in_range address pages v then change (old q v) else old q v)

abbrev pub protected_by : ℕ → Behind → Behind
protected_by prot b = record { origin = b.origin; prot = prot }
